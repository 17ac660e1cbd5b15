use Rattle.vx_ledger.specs.Ledger.{AreLive}
use Rattle.vx_keeping.specs.Kept.{copies_kept}
use Rattle.vx_component_calls.proofs.keepers.feed.Given as goal

abbrev pub invariant-loop-i : goal.invariant-loop-i
invariant-loop-i g l = AreLive l.batches (copies_kept l.keeper)
