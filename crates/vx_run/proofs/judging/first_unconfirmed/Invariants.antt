use Rattle.std.proofs.Common.{◌≡◌, ◌<◌, ℕ, false}
use Rattle.vx_record.specs.Confirms.{is_unconfirmed}
use Rattle.vx_run.proofs.judging.first_unconfirmed.Given as goal

abbrev pub invariant-loop-instance : goal.invariant-loop-instance
invariant-loop-instance g l = (i : ℕ) → i < l.instance → is_unconfirmed l.fn.hub.engine.log i ≡ false
