use Rattle.std.proofs.Common.{◌∙◌, ap, [], ◌∷◌}
use Rattle.vx_subst.specs.Pieces.{behind}
use Rattle.vx_subst.proofs.Drops.{behind_braces}
use Rattle.vx_subst.proofs.Unclosed.{unclosed_behind}
use Rattle.vx_subst.proofs.form.braced.Goals as goal

pub returns-in-Some-clause-rest : goal.returns-in-Some-clause-rest
unfolding behind
returns-in-Some-clause-rest c =
    behind_braces c.args.text.now _ _ _ (c.requires.whole ∙ ap (λ t. 123 ∷ t) c.split_name.ensures.whole) c.in-Some.ensures

pub with_default-requires-clause-unclosed : goal.with_default-requires-clause-unclosed
with_default-requires-clause-unclosed c =
    let n = c.args.unclosed in
    let dash = c.in-Some-behind_first.dash.now in
    let after = unclosed_behind n _ _ _ c.split_name.ensures.whole c.requires.unclosed in
    let behind_colon = unclosed_behind n (58 ∷ []) dash _ c.in-Some-behind_first.ensures after in
    unclosed_behind n (45 ∷ []) c.in-Some-behind_first-2.default.now dash c.in-Some-behind_first-2.ensures behind_colon
