use Rattle.std.proofs.Common.{◌∙◌, ap, is_some}
use Rattle.regex.specs.Patterns.{find_str}
use Rattle.vx_condition.proofs.Matches.{found-as_read}
use Rattle.vx_condition.proofs.pattern.Pattern.is_in.Goals as goal

pub returns : goal.returns
returns c =
    c.is_match.ensures.found
    ∙ ap (λ re. is_some (find_str re c.args.text.now 0)) c.in_ok-matcher.ensures.pattern
    ∙ found-as_read c.self.inside.regex c.args.self.now c.args.text.now c.self.view_is c.self.invariant.0 c.self.invariant.1 (λ k. (c.type_inv.text k).fits)
