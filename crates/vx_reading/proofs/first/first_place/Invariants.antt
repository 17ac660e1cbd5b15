use Rattle.std.proofs.Common.{◌<◌, length}
use Rattle.vx_reading.proofs.Precedence.{NoneBefore}
use Rattle.vx_reading.proofs.first.first_place.Given as goal

-- none of the faults so far is tried before the best
abbrev pub invariant-loop-i : goal.invariant-loop-i
invariant-loop-i l = record { within : l.best < length l.diagnostics; first : NoneBefore l.diagnostics l.i l.best }
