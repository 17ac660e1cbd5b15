use Rattle.std.proofs.Common.{◌∙◌}
use Rattle.std.specs.Ordering.{nat_cmp}
use Rattle.vx_value.proofs.value.Value.compare_kinds.Goals as goal

pub returns : goal.returns
returns c = c.cmp.ensures ∙ (λ i. nat_cmp (c.kind.ensures i) (c.kind-2.ensures i))
