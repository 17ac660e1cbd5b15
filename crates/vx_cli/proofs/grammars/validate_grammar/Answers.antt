use Rattle.std.proofs.Common.{refl, codes, [], ◌∷◌, lit<}
use Rattle.std.proofs.lemmas.Result.{IfOk-weaker}
use Rattle.vx_cli.proofs.Given.{given}
use Rattle.vx_cli.proofs.grammars.validate_grammar.Goals as goal

pub returns-clause-value : goal.returns-clause-value
returns-clause-value c =
    let arg = c.required_value.result in
    IfOk-weaker c.arg.result _ _
    (λ command adds. given c.grammar-command.result command (arg ∷ []) (codes "path" ∷ []) 0 arg
    c.grammar-command.ensures.bare (command, adds, refl) (c.required_value.ensures.named, tt) refl (lit< tt) c.required_value.ensures.required)
    c.arg.ensures
