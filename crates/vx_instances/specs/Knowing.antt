-- When what is known of the instances is what a record has of them.
use Rattle.std.specs.Prelude.{◌≡◌, ◌≢◌, ℕ, ◌+◌, ◌<◌, ◌||◌, ◌&&◌, not, Bool, true, false, List, [], ◌∷◌, length, map, Option, Some, None, IfSome, IfNone, IsSomeAnd, slice_get, if◌then◌else◌}
use Rattle.vx_ends.specs.Observation.{Observation}
use Rattle.vx_ends.specs.declared.position.Position.{Position}
use Rattle.vx_plan.specs.declared.component.Component.{Component}
use Rattle.vx_plan.specs.declared.settings.Settings.{Settings}
use Rattle.vx_plan.specs.declared.sink_settings.SinkSettings.{SinkSettings}
use Rattle.vx_plan.specs.Components.{batch_max_events, batch_timeout, component_named, is_sink, of_sink, port_names, retry_attempts}
use Rattle.vx_plan.specs.Options.{has_device, reading_interval}
use Rattle.vx_record.specs.Records.{Record, capped}
use Rattle.vx_record.specs.Routing.{wired_targets}
use Rattle.vx_record.specs.Copies.{count, counting, joined}
use Rattle.vx_record.specs.Installs.{Wiring, wired, component_of, device_at, sink_at, started, is_closed, is_retired}
use Rattle.vx_record.specs.Turns.{is_out, at_lease, lease_now}
use Rattle.vx_record.specs.Reads.{all_ended}
use Rattle.vx_record.specs.Ceasing.{lost_at, cause_of}
use Rattle.vx_record.specs.Sourcing.{failed_starts, must_wait}
use Rattle.vx_record.specs.Confirms.{Birth, births, is_noticed, was_delivered, is_unconfirmed, last_confirm, due}
use Rattle.vx_record.specs.Owing.{owes}
use Rattle.vx_record.specs.Parcels.{first_copy}
use Rattle.vx_record.specs.Places.Place.{Held}
use Rattle.vx_record.specs.Shifts.{at}
use Rattle.vx_record.specs.SinkBatches.{attempts_with, failures_with, failed_at, taken_at}
use Rattle.vx_record.specs.Ready.{reading_moment}
use Rattle.vx_sinkcore.specs.declared.schedule.Schedule.{Schedule}
use Rattle.vx_sourcecore.specs.Prefixes.{Judgement, IsPrefixOf}
use Rattle.vx_counts.specs.Meets.{Meets}
use Rattle.vx_tasks.specs.declared.task.Role.TheVariants.{Unfit}
use Rattle.vx_tasks.specs.declared.task.Task.{Task}
use Rattle.vx_tasks.specs.Observing.{IsObservedButGiven}
use Rattle.vx_tasks.specs.Unleased.{HasCome, HasKept, IsTaskOf}
use Rattle.vx_instances.specs.declared.facts.Batching.{Batching}
use Rattle.vx_instances.specs.declared.facts.Facts.{Facts}
use Rattle.vx_instances.specs.declared.progress.Progress.{Progress}
use Rattle.vx_instances.specs.declared.state.InstanceState.{InstanceState}

-- how a sink makes its attempts again
abbrev pub schedule_of : Settings → Schedule
schedule_of settings = record {
  initial_secs = of_sink 0 (λ (s : SinkSettings). s.request_retry_initial_backoff_secs) settings;
  max_secs = of_sink 0 (λ (s : SinkSettings). s.request_retry_max_duration_secs) settings;
  attempts = retry_attempts settings;
}

-- how a component collects, if it is a sink
abbrev pub batching_of : Component → Option Batching
batching_of c =
    if is_sink c then Some (record { max_events = batch_max_events c.settings; timeout = batch_timeout c.settings; retries = schedule_of c.settings }) else None

-- a state is for a component
pub record IsFittedTo {P : Type 0} (state : InstanceState P) (c : Component) : Type 0 where
  pub name : state.name ≡ c.name
  pub class : state.class ≡ c.class
  pub device : state.device ≡ has_device c.settings
  pub batching : state.batching ≡ batching_of c
  pub interval : state.interval ≡ reading_interval c.settings

-- the instances that read each port of a wired one, in the order of the ports
abbrev pub wired_outlets : Wiring → List (List ℕ)
wired_outlets w = map (λ port. wired_targets port w) (elim (component_named w.plan w.name) [ None ↦ [] | Some c ↦ counting 0 (length (port_names c)) ])

-- those of an instance
abbrev pub outlets_at : Record → ℕ → List (List ℕ)
outlets_at = wired [] wired_outlets

-- for that of its instance, and it sends to the readers of each port of that
pub record IsFitted {P : Type 0} (state : InstanceState P) (h : Record) (i : ℕ) : Type 0 where
  pub component : IsSomeAnd (component_of h i) (IsFittedTo state)
  pub outlet : state.outlet ≡ outlets_at h i

-- the moment that is kept is that of the take of the oldest parcel that the instance holds, until that one is attempted or the
-- run is given up
abbrev pub IsSince : Record → ℕ → ℕ → List (List ℕ) → Type 0
IsSince h i since [] = Unit {0}
IsSince h i since (copies ∷ rest) =
    cause_of h ≡ None → attempts_with h i (first_copy copies) ≡ 0 → since ≡ taken_at h i (first_copy copies)

-- what is kept of failures is how often attempts with each copy that the instance holds failed, and when the last of them did
abbrev pub HasFailed : Record → ℕ → ℕ → ℕ → List (List ℕ) → Type 0
HasFailed h i failures failed held =
    (c : ℕ) → 0 < count c (joined held) → (failures ≡ capped (failures_with h i c)) × (failed ≡ failed_at h i c)

-- what happened to the instance
pub record HasFacts (f : Facts) (h : Record) (i : ℕ) : Type 0 where
  pub over : f.over ≡ all_ended h i
  pub lost : f.lost ≡ lost_at h i
  pub failed_starts : f.failed_starts ≡ failed_starts h i
  pub confirm_failed : f.confirm_failed ≡ is_unconfirmed h i
  pub closed : f.closed ≡ is_closed h i
  pub retired : f.retired ≡ is_retired h i
  pub leased_at : f.leased_at ≡ lease_now h i
  pub reads_from : f.reads_from ≡ reading_moment h i
  pub since : sink_at h i ≡ true → IsSince h i f.since (at h (Held i))
  pub tried : sink_at h i ≡ true → HasFailed h i f.failures f.failed_at (at h (Held i))

-- how many of some births have no notice yet
abbrev pub count_unnoticed : Record → List Birth → ℕ
count_unnoticed h [] = 0
count_unnoticed h (birth ∷ rest) = (if is_noticed h birth.batch then 0 else 1) + count_unnoticed h rest

-- whether a batch may be confirmed as soon as those before it are: it needn't wait, or was delivered; and whether it has another
-- notice, by which it never will, if it has to wait
abbrev pub judged_by : Record → Judgement
judged_by h = record {
  may = λ (birth : Birth). not birth.waits || was_delivered h birth.batch;
  never = λ (birth : Birth). is_noticed h birth.batch && not (was_delivered h birth.batch);
}

-- what was due at an instance when it was last leased
abbrev pub asked : Record → ℕ → List Position
asked h i = due (at_lease h i) i

-- how far the instance has come: its batches without a notice, and those that may be confirmed
pub record HasProgress (p : Progress) (h : Record) (i : ℕ) : Type 0 where
  pub unnoticed : p.unnoticed ≡ count_unnoticed h (births h i)
  pub waits : p.prefix.waits ≡ must_wait h i
  pub prefix : IsPrefixOf p.prefix (judged_by h) (births h i) (asked h i)

-- an unleased task is as the record has it; where memory was wanting in the midst of an attempt the port may have given more
abbrev pub IsTaskOfBut : {P : Type 0} → (P → Observation) → Bool → Record → ℕ → Task P → Type 0
IsTaskOfBut observe true h i task = IsObservedButGiven (observe task.port) h i × HasCome h i task.role
IsTaskOfBut observe false h i task = IsTaskOf observe h i task

-- the instance of an unleased task isn't out, owes nothing where its batch was born, nor, where it has a device, a confirm that it was leased for, what
-- it keeps stands for what it answered where that is so and the run goes on, its port isn't started where it is closed for good, and it
-- is fit for work where what it counts is known
pub record HasUnleasedTask {P : Type 0} (observe : P → Observation) (f : Facts) (h : Record) (i : ℕ) (task : Task P) : Type 0 where
  pub unleased : is_out h i ≡ false
  pub settled : f.owing ≡ false → cause_of h ≡ None → owes h i ≡ false
  pub answered : device_at h i ≡ true → f.owing ≡ false → cause_of h ≡ None → last_confirm h i ≡ asked h i
  pub kept : f.owing ≡ false → cause_of h ≡ None → HasKept h i task.role
  pub task_is : IsTaskOfBut observe f.starved h i task
  pub shut : f.closed ≡ true → (observe task.port).started ≡ false
  pub fit : f.behind ≡ false → task.role ≢ Unfit

-- what is known of one instance
pub record IsKnown {P : Type 0} (observe : P → Observation) (state : InstanceState P) (h : Record) (i : ℕ) : Type 0 where
  pub fitted : IsFitted state h i
  pub facts : HasFacts state.facts h i
  pub progress : HasProgress state.progress h i
  pub counts : state.facts.behind ≡ false → Meets i h state.counts.tally
  pub unleased : IfSome state.task (HasUnleasedTask observe state.facts h i)
  pub away : IfNone state.task (is_out h i ≡ true)

-- what is known of all
pub record Knows {P : Type 0} (observe : P → Observation) (states : List (InstanceState P)) (h : Record) : Type 0 where
  pub size : length states ≡ length (started h)
  pub each : (i : ℕ) → IfSome (slice_get states i) (λ state. IsKnown observe state h i)
