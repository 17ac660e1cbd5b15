-- What a sink or a transform that is out takes.
use Rattle.std.specs.Prelude.{◌≡◌, ◌<◌, ◌≤◌, ◌+◌, ℕ, true, false, length, None}
use Rattle.std.specs.List.{list_all}
use Rattle.vx_ends.specs.Observation.{Observation}
use Rattle.vx_record.specs.declared.entry.Entry.{Entry}
use Rattle.vx_record.specs.declared.entry.Entry.TheVariants.{Take}
use Rattle.vx_record.specs.Ceasing.{cause_of}
use Rattle.vx_record.specs.Additions.{OnlyAdds}
use Rattle.vx_record.specs.Installs.{sink_at, transform_at}
use Rattle.vx_record.specs.Lists.{held}
use Rattle.vx_record.specs.Owing.{owes, owes_discards, took_since}
use Rattle.vx_record.specs.Abandoning.{abandoned}
use Rattle.vx_record.specs.Places.Place.{Held}
use Rattle.vx_record.specs.Records.{Record}
use Rattle.vx_record.specs.Shifts.{at}
use Rattle.vx_record.specs.SinkBatches.{retry_from}
use Rattle.vx_record.specs.Turns.{is_out, since_lease, is_take_of, lease_now}
use Rattle.vx_places.specs.Calls.{IsKept}
use Rattle.vx_tasks.specs.Out.{IsUnread}
use Rattle.vx_moves.specs.declared.engine.EngineState.{EngineState}
use Rattle.vx_moves.specs.Leaving.{Leaves}
use Rattle.vx_moves.specs.Stands.{Stands}
use Rattle.vx_ready.specs.Asking.{IsServed}

-- a sink owes nothing, in a run that wasn't given up
pub record OwesNothing {P : Type 0} (engine : EngineState P) (i : ℕ) : Type 0 where
  pub sink : sink_at engine.log i ≡ true
  pub settled : owes engine.log i ≡ false
  pub going : cause_of engine.log ≡ None

-- it is out since a moment, and did nothing but take; what it holds isn't lent, and needn't wait for an attempt
pub record IsOut {P : Type 0} (engine : EngineState P) (i now : ℕ) : Type 0 where
  pub out : is_out engine.log i ≡ true
  pub moment : now ≡ lease_now engine.log i
  pub only_takes : list_all (is_take_of i) (since_lease engine.log i) ≡ true
  pub clear : OwesNothing engine i
  pub waited : 0 < length (held engine.log i) → retry_from engine.log i ≤ now
  pub kept : IsKept engine.places i
  pub unread : IsUnread engine.log

-- it took so many at the most
pub record IsCollecting {P : Type 0} (engine : EngineState P) (i now taken : ℕ) : Type 0 where
  pub is : IsOut engine i now
  pub few : length (since_lease engine.log i) ≤ taken

-- a transform is out since a moment, and did nothing but take; it holds nothing but what it took, which isn't lent
pub record IsGathering {P : Type 0} (engine : EngineState P) (i now : ℕ) : Type 0 where
  pub transform : transform_at engine.log i ≡ true
  pub going : abandoned engine.log ≡ false
  pub out : is_out engine.log i ≡ true
  pub moment : now ≡ lease_now engine.log i
  pub only_takes : list_all (is_take_of i) (since_lease engine.log i) ≡ true
  pub settled : owes_discards engine.log i ≡ false
  pub kept : IsKept engine.places i
  pub held : length (at engine.log (Held i)) ≡ length (since_lease engine.log i)

-- a take of the instance
abbrev pub IsTakeOf : ℕ → Record → Entry → Type 0
IsTakeOf i h (Take j stage copies) = j ≡ i
IsTakeOf i h other = ⊥

-- it took one more
pub record HasGatheredOne {P : Type 0} (observe : P → Observation) (i now : ℕ) (old new : EngineState P) : Type 0 where
  pub stands : Stands observe new
  pub served : IsServed new
  pub gathering : IsGathering new i now
  pub one : length (since_lease new.log i) ≡ length (since_lease old.log i) + 1
  pub took : took_since new.log i ≡ true
  pub only : OnlyAdds (IsTakeOf i) old.log new.log
  pub leaves : Leaves old new
  pub size : length new.states ≡ length old.states

-- one more was taken
pub record HasTaken {P : Type 0} (observe : P → Observation) (i now taken : ℕ) (old new : EngineState P) : Type 0 where
  pub stands : Stands observe new
  pub served : IsServed new
  pub collecting : IsCollecting new i now (taken + 1)
  pub only : OnlyAdds (IsTakeOf i) old.log new.log
  pub leaves : Leaves old new
  pub size : length new.states ≡ length old.states
