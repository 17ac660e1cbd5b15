-- What the engine's state stands for, and how one entry changes it.
use Rattle.std.specs.Prelude.{◌≡◌, ℕ, ◌≤◌, false, List, ◌∷◌, length, Option, Some, IsSome}
use Rattle.vx_ends.specs.Observation.{Observation}
use Rattle.vx_record.specs.declared.entry.Entry.{Entry}
use Rattle.vx_record.specs.Records.{Record}
use Rattle.vx_record.specs.Installs.{in_force}
use Rattle.vx_record.specs.Ceasing.{cause_of}
use Rattle.vx_record.specs.Turns.{is_out, worker_now}
use Rattle.vx_record.specs.Legal.{IsLegal, Follows}
use Rattle.vx_record.specs.Places.Place.{Held}
use Rattle.vx_balance.specs.Balances.{Balances}
use Rattle.vx_counts.specs.Begun.{EachBegun}
use Rattle.vx_places.specs.Holding.{Holds}
use Rattle.vx_places.specs.Views.{parcels_here}
use Rattle.vx_places.specs.declared.row.Row.{Row}
use Rattle.vx_instances.specs.Knowing.{Knows}
use Rattle.vx_moves.specs.Returns.{HaveReturned}
use Rattle.vx_tasks.specs.Joining.{joins_at}
use Rattle.vx_keeping.specs.Kept.{Kept}
use Rattle.vx_moves.specs.Keepers.{OthersJudge, AreKept, AreKeepers}
use Rattle.vx_moves.specs.Capacities.{AreCapacities}
use Rattle.vx_moves.specs.declared.run.Run.{Run}
use Rattle.vx_moves.specs.declared.engine.EngineState.{EngineState}

-- what is known of the run is what the record has; each transform judges event by event or merges; what came back had returned, but
-- where memory was wanting
pub record IsRun (run : Run) (h : Record) : Type 0 where
  pub installed : in_force h ≡ Some run.plan
  pub cause : run.abandoned ≡ cause_of h
  pub later : (worker : ℕ) → worker_now h worker ≤ run.latest
  pub judging : OthersJudge h
  pub returned : run.out_of_memory ≡ false → HaveReturned h

-- what an instance holds is not lent while the instance is unleased, unless it merges
abbrev pub KeptUnleased : List Row → Record → Type 0
KeptUnleased rows h = (i : ℕ) → is_out h i ≡ false → joins_at h i ≡ false → IsSome (parcels_here rows (Held i))

-- each part has what the record says, and for the parcels as much room as the plan gives; what is out is no part's; what is left of
-- parcels are first parts of them, but where an instance merges; and of the keepers this is so
pub record StandsBy {P : Type 0} (AreSo : List (Option Kept) → Record → Type 0) (observe : P → Observation) (engine : EngineState P) (h : Record) : Type 0 where
  pub legal : IsLegal h
  pub places : Holds engine.places h
  pub states : Knows observe engine.states h
  pub balance : Balances engine.balance h
  pub run : IsRun engine.run h
  pub size : length engine.places ≡ length engine.states
  pub kept : KeptUnleased engine.places h
  pub capacities : AreCapacities engine.places h
  pub begun : EachBegun (joins_at h) h
  pub keepers : AreKeepers engine.keepers.items engine.places h
  pub keeps : AreSo engine.keepers.items h

-- and each keeper is that of the record
abbrev pub StandsFor : {P : Type 0} → (P → Observation) → EngineState P → Record → Type 0
StandsFor observe engine h = StandsBy AreKept observe engine h

abbrev pub Stands : {P : Type 0} → (P → Observation) → EngineState P → Type 0
Stands observe engine = StandsFor observe engine engine.log

-- one entry was added, and the engine's state stands for it
pub record Steps {P : Type 0} (observe : P → Observation) (e : Entry) (old new : EngineState P) : Type 0 where
  pub stands : Stands observe new
  pub follows : Follows old.log e
  pub noted : new.log ≡ e ∷ old.log
  pub size : length new.states ≡ length old.states
