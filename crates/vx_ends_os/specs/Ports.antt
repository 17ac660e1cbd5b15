-- What is observed of a port of this process.
use Rattle.std.specs.Prelude.{None, [], true}
use Rattle.vx_ends.specs.Observation.{Observation, unobserved}
use Rattle.vx_ends_os.specs.declared.os_port.OsPort.{OsPort}

-- its counts and states, and nothing of what went through it
abbrev pub observed_of : OsPort → Observation
observed_of p = record {
  taken = λ _. None;
  left = λ _. None;
  given = None;
  confirmed = None;
  spec = unobserved;
  ended = [];
  over = p.over;
  started = p.started;
  faults = p.faults;
  idles = p.idles;
  refusals = 0;
  starts = p.starts;
  finishes = p.finishes;
  confirms = p.confirms;
  exact = true;
}
