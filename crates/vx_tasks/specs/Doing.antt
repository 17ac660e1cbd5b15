-- What a task's work does with its port, job by job.
use Rattle.std.specs.Prelude.{◌≡◌, ℕ, false, List, [], ◌∷◌, ◌++◌, map, Some, IfSome}
use Rattle.vx_value.specs.Texts.{ByteString}
use Rattle.vx_value.specs.declared.event.Event.{Event}
use Rattle.vx_condition.specs.Steps.{Test}
use Rattle.vx_plan.specs.declared.settings.Settings.{Settings}
use Rattle.vx_plan.specs.Options.{conditions_of}
use Rattle.vx_ends.specs.Observation.{Observation}
use Rattle.vx_codec.specs.declared.codec.Codec.{Codec}
use Rattle.vx_ledger.specs.declared.parcel.Parcel.{Parcel}
use Rattle.vx_record.specs.Records.{Record}
use Rattle.vx_record.specs.Reads.{all_ended, ended_streams}
use Rattle.vx_record.specs.Encoding.{encode_event, given}
use Rattle.vx_record.specs.Transforms.{AllMean, Judge, judges, rule_of}
use Rattle.vx_tasks.specs.declared.task.Role.{Role}
use Rattle.vx_tasks.specs.declared.work.Job.{Job}
use Rattle.vx_tasks.specs.declared.work.Job.TheVariants as job
use Rattle.vx_tasks.specs.Unleased.{HasCome, HasKept}
use Rattle.vx_tasks.specs.Out.{IsHeld, IsGiven, picked_ports}

-- what a codec writes of some parcels, the oldest first
abbrev pub written : Codec → List Parcel → ByteString
written codec [] = []
written codec (p ∷ ps) = encode_event codec p.event ++ written codec ps

-- the events of some parcels
abbrev pub events_in : List Parcel → List Event
events_in parcels = map (λ (parcel : Parcel). parcel.event) parcels

-- the ports on which some events are put out behind others are those that settings say of each, by whatever tests their conditions mean
abbrev pub AllPicked : Settings → List Event → List Event → List ℕ → Type 0
AllPicked settings earlier events ports =
    (tests : List Test) (judge : Judge) → AllMean (conditions_of settings) tests → rule_of settings tests ≡ Some (judges judge) →
    ports ≡ picked_ports judge earlier events

-- what a job needs of a record, of what the port tells and of what the instance does
pub record MayAct (observed : Observation) (h : Record) (i : ℕ) (does : Role) (parcels : List Parcel) (wanted : Job) : Type 0 where
  pub wrote : IfSome observed.given (λ bytes. bytes ≡ given h i)
  pub given : IsGiven h i wanted
  pub come : HasCome h i does
  pub kept : HasKept h i does
  pub held : IsHeld h i parcels
  pub ended : observed.ended ≡ ended_streams h i
  pub unended : wanted ≡ job.Read → all_ended h i ≡ false
