use Rattle.std.proofs.Common.{[], ◌∷◌}
use Rattle.vx_subst.proofs.Unclosed.{unclosed_behind}
use Rattle.vx_subst.proofs.form.form_of.Goals as goal

pub braced-requires-clause-unclosed : goal.braced-requires-clause-unclosed
braced-requires-clause-unclosed c =
    unclosed_behind c.args.unclosed (123 ∷ []) c.in-Some-behind_first.inner.now c.args.text.now c.in-Some-behind_first.ensures c.requires
