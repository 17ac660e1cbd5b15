-- What is observed of a port that may not be there.
use Rattle.std.specs.Prelude.{[], false, Option, Some, None}
use Rattle.vx_ends.specs.Observation.{Observation, absent}

-- nothing
abbrev pub silent : Observation
silent = record {
  taken = λ stream. None;
  left = λ stream. None;
  given = None;
  confirmed = None;
  spec = absent;
  ended = [];
  over = false;
  started = false;
  faults = 0;
  idles = 0;
  refusals = 0;
  starts = 0;
  finishes = 0;
  confirms = 0;
  exact = false;
}

-- what is observed of the port, if there is one
abbrev pub observed_if : {P : Type 0} → (P → Observation) → Option P → Observation
observed_if observe None = silent
observed_if observe (Some port) = observe port
