use Rattle.std.specs.Prelude.{◌⊎◌, ◌≡◌, ◌<◌, ℕ, true}
use Rattle.vx_record.specs.Abandoning.{abandoned}
use Rattle.vx_record.specs.Ending.{MayRetire}
use Rattle.vx_hub.specs.Standing.{IsWell}
use Rattle.vx_hub.proofs.ending.first_over.Given as goal

abbrev pub invariant-loop-i : goal.invariant-loop-i
invariant-loop-i g l = IsWell l.engine ⊎ (abandoned l.engine.log ≡ true) → (k : ℕ) → k < l.i → MayRetire l.engine.log k → ⊥
