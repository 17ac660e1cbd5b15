use Rattle.std.proofs.Common.{◌∙◌, ap, sym, if◌then◌else◌}
use Rattle.std.specs.List.{before_first}
use Rattle.vx_subst.specs.Pieces.{Plain, WithDefault, dollar, is_end_brace, with_default}
use Rattle.vx_subst.proofs.Unclosed.{unclosed_all}
use Rattle.vx_subst.proofs.form.with_default.Goals as goal

pub returns-then-default-unclosed-clause-form : goal.returns-then-default-unclosed-clause-form
unfolding with_default
returns-then-default-unclosed-clause-form c =
    let default = c.args.default.now in
    let none = unclosed_all c.args.unclosed default c.if-default-unclosed.true c.requires.unclosed in
    c.lone.ensures.form
    ∙ sym (ap (λ z. if z then WithDefault c.args.name.now (before_first is_end_brace default) else Plain dollar) none)
