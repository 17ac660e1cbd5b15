use Rattle.std.proofs.Common.{◌≡◌, ◌<◌, ℕ, None}
use Rattle.vx_record.specs.Ceasing.{lost_at}
use Rattle.vx_run.proofs.judging.first_lost.Given as goal

abbrev pub invariant-loop-instance : goal.invariant-loop-instance
invariant-loop-instance g l = (i : ℕ) → i < l.instance → lost_at l.fn.hub.engine.log i ≡ None
