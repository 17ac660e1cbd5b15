use Rattle.std.proofs.Common.{refl, codes, [], ◌∷◌, lit<}
use Rattle.std.proofs.lemmas.Result.{IfOk-weaker}
use Rattle.vx_cli.proofs.Given.{given}
use Rattle.vx_cli.proofs.grammars.run_grammar.Goals as goal

pub returns-clause-value : goal.returns-clause-value
returns-clause-value c =
    let config = c.config_option.result in
    let once = c.flag.result in
    let stats = c.flag-2.result in
    IfOk-weaker c.arg-3.result _ _
    (λ command adds. given c.grammar-command.result command (config ∷ once ∷ stats ∷ []) (codes "config" ∷ codes "once" ∷ codes "stats" ∷ []) 0 config
    c.grammar-command.ensures.bare (c.in_ok-arg.field-0, c.in_ok-arg.ensures, (c.in_ok-arg-2.field-0, c.in_ok-arg-2.ensures, (command, adds, refl)))
    (c.config_option.ensures.named, (c.flag.ensures.named, (c.flag-2.ensures.named, tt))) refl (lit< tt) c.config_option.ensures.required)
    c.arg-3.ensures
