use Rattle.std.specs.Prelude.{◌≡◌, ◌<◌, ℕ, true}
use Rattle.vx_record.specs.Installs.{is_retired}
use Rattle.vx_hub.proofs.hub.Hub.over.Given as goal

abbrev pub invariant-loop-i : goal.invariant-loop-i
invariant-loop-i g l = (k : ℕ) → k < l.i → is_retired l.self.engine.log k ≡ true
