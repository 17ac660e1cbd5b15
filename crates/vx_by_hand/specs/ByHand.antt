-- What is known of tasks that are out together.
use Rattle.std.specs.Prelude.{◌≡◌, ◌≢◌, ◌<◌, ℕ, Some, length}
use Rattle.vx_ends.specs.Observation.{Observation}
use Rattle.vx_record.specs.Additions.{OnlyAdds}
use Rattle.vx_record.specs.Installs.{started}
use Rattle.vx_record.specs.Makers.{Spares}
use Rattle.vx_record.specs.Records.{Record}
use Rattle.vx_record.specs.Tasks.{out_to}
use Rattle.vx_moves.specs.Capacities.{IsHeldLimitOf}
use Rattle.vx_tasks.specs.Out.{HasLeft, HasDone}
use Rattle.vx_tasks.specs.declared.landing.Landing.{Landing}
use Rattle.vx_tasks.specs.declared.work.Work.{Work}

-- a task is out, as it left
pub record IsAway {P : Type 0} (observe : P → Observation) (h : Record) (work : Work P) : Type 0 where
  pub left : HasLeft observe h work
  pub room : IsHeldLimitOf h work.instance work.held.room
  pub within : work.instance < length (started h)

-- a task is out, with what was done, and may come back
pub record IsBack {P : Type 0} (observe : P → Observation) (h : Record) (landing : Landing P) : Type 0 where
  pub done : HasDone observe h landing
  pub room : IsHeldLimitOf h landing.instance landing.held.room
  pub within : landing.instance < length (started h)

-- what was added spares each task that is out
abbrev pub SparesEach : Record → Record → Type 0
SparesEach old new = (i worker : ℕ) → out_to old i ≡ Some worker → OnlyAdds (Spares i) old new

-- but that of one instance
abbrev pub SparesOthers : ℕ → Record → Record → Type 0
SparesOthers i old new = (j worker : ℕ) → j ≢ i → out_to old j ≡ Some worker → OnlyAdds (Spares j) old new

-- three tasks may come back, and are of three instances
pub record AreBack {P : Type 0} (observe : P → Observation) (h : Record) (a b c : Landing P) : Type 0 where
  pub first : IsBack observe h a
  pub second : IsBack observe h b
  pub third : IsBack observe h c
  pub first_second : a.instance ≢ b.instance
  pub first_third : a.instance ≢ c.instance
  pub second_third : b.instance ≢ c.instance
