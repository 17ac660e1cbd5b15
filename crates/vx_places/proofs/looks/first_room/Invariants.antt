use Rattle.std.proofs.Common.{ℕ, ◌<◌}
use Rattle.vx_places.specs.Calls.{HasRoom}
use Rattle.vx_places.proofs.looks.first_room.Given as goal

abbrev pub invariant-loop-s : goal.invariant-loop-s
invariant-loop-s l = (r : ℕ) → r < l.s → HasRoom l.rows l.i r → ⊥
