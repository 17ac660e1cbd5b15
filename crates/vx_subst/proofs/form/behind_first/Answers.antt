use Rattle.std.proofs.lemmas.Str.Pattern.{strip_prefix_char}
use Rattle.vx_subst.proofs.Drops.{begins_as}
use Rattle.vx_subst.proofs.form.behind_first.Goals as goal

pub returns : goal.returns
returns c =
    let text = c.args.text.now in
    let r = c.strip_prefix.result in
    begins_as c.args.first text r (strip_prefix_char c.args.first text r c.strip_prefix.ensures.cases c.requires)
