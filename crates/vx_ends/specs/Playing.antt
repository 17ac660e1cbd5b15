-- What contracts see of a port in memory.
use Rattle.std.specs.Prelude.{ℕ, List, [], ◌++◌, Bool, true, false, Option, Some, Result, Ok, Err, is_ok, if◌then◌else◌, None}
use Rattle.vx_ends.specs.Acts.{first_act, later_acts, plain_answer, is_failed, raised}
use Rattle.vx_ends.specs.declared.trouble.Trouble.{Trouble}
use Rattle.vx_ends.specs.Script.{Progress, bytes_of, left_of, ends_of}
use Rattle.vx_ends.specs.Observation.{Observation, Made, unobserved, made}
use Rattle.vx_ends.specs.declared.act.Act.{Act}
use Rattle.vx_ends.specs.declared.step.Step.{Step}
use Rattle.vx_ends.specs.declared.position.Position.{Position}
use Rattle.vx_ends.specs.declared.port_spec.PortSpec.{PortSpec}

-- A port that plays a script.
pub record Playing : Type 0 where
  -- how far its script was told
  pub script : Progress
  -- the acts that are still to be used
  pub acts : List Act
  -- the bytes that it was given
  pub given : List ℕ
  -- the positions that were confirmed
  pub confirmed : List Position
  -- what it was made for, where a world made it
  pub spec : Option PortSpec
  -- whether it is started and not closed since
  pub started : Bool
  -- whether it told the end of all
  pub over : Bool
  -- its counts
  pub faults : ℕ
  pub idles : ℕ
  pub refusals : ℕ
  pub starts : ℕ
  pub finishes : ℕ
  pub confirms : ℕ

-- a closed port through which nothing went yet
abbrev pub closed_port : Option PortSpec → List Step → List Act → Playing
closed_port spec steps acts = record {
  script = record { past = []; rest = steps };
  acts = acts;
  given = [];
  confirmed = [];
  spec = spec;
  started = false;
  over = false;
  faults = 0;
  idles = 0;
  refusals = 0;
  starts = 0;
  finishes = 0;
  confirms = 0;
}

-- what a port tells that may have been made for something
abbrev pub made_by : Option PortSpec → Made
made_by None = unobserved
made_by (Some spec) = made spec

-- what is observed of such a port: everything
abbrev pub observe : Playing → Observation
observe p = record {
  taken = λ stream. Some (bytes_of stream p.script.past);
  left = λ stream. Some (left_of stream p.script);
  given = Some p.given;
  confirmed = Some p.confirmed;
  spec = made_by p.spec;
  ended = ends_of p.script.past;
  over = p.over;
  started = p.started;
  faults = p.faults;
  idles = p.idles;
  refusals = p.refusals;
  starts = p.starts;
  finishes = p.finishes;
  confirms = p.confirms;
  exact = true;
}

-- the answer of a start
abbrev pub start_answer : Playing → Result Unit Trouble
start_answer p = if p.started then Ok tt else plain_answer (first_act p.acts)

-- a port after a start: one that is started already stays as it is, and uses no act
abbrev pub after_start : Playing → Playing
after_start p =
    if p.started then p
    else record p {
      acts = later_acts p.acts;
      started = is_ok (start_answer p);
      faults = raised p.faults (is_failed (start_answer p));
      starts = raised p.starts (is_ok (start_answer p));
    }

-- the positions that are confirmed after a confirm
abbrev pub confirmed_after : List Position → Result Unit Trouble → List Position → List Position
confirmed_after old (Ok x) positions = old ++ positions
confirmed_after old (Err e) positions = old
