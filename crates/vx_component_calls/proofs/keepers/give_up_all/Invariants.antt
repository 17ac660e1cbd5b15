use Rattle.std.specs.List.{sum_by}
use Rattle.vx_ledger.specs.Ledger.{AreLive}
use Rattle.vx_keeping.specs.Kept.{copies_kept}
use Rattle.vx_component_calls.proofs.keepers.give_up_all.Given as goal

abbrev pub invariant-loop-copy : goal.invariant-loop-copy
invariant-loop-copy g l = AreLive l.batches (copies_kept l.keeper)

abbrev pub decreases-loop-copy : goal.decreases-loop-copy
decreases-loop-copy g l = sum_by (λ copy. 1) (copies_kept l.keeper)
