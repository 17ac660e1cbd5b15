-- What an instance has to do, as the record has it.
use Rattle.std.specs.Prelude.{◌≡◌, ◌⊎◌, ℕ, ◌+◌, ◌*◌, ◌==◌, ◌≤◌, Bool, true, false, ◌||◌, Option, Some, None, if◌then◌else◌, nat_le, nat_lt}
use Rattle.vx_sinkcore.specs.Waits.{wait_after}
use Rattle.vx_record.specs.Records.{Record, capped}
use Rattle.vx_record.specs.Abandoning.{abandoned}
use Rattle.vx_record.specs.Confirms.{is_confirm_due}
use Rattle.vx_record.specs.Installs.{source_at, transform_at, sink_at}
use Rattle.vx_record.specs.Lists.{buffered}
use Rattle.vx_record.specs.Routing.{is_sent}
use Rattle.vx_value.specs.Texts.{is_empty}
use Rattle.vx_record.specs.Ready.{can_read, is_close_due, is_attempt_due, can_take}
use Rattle.vx_record.specs.Starting.{MayLease}
use Rattle.vx_record.specs.Turns.{worker_now}
use Rattle.vx_moves.specs.declared.engine.EngineState.{EngineState}
use Rattle.vx_moves.specs.Leasing.{IsFitAt}
use Rattle.vx_instances.specs.declared.facts.Batching.{Batching}
use Rattle.vx_sinkcore.specs.declared.schedule.Schedule.{Schedule}
use Rattle.vx_tasks.specs.declared.work.Job.{Job}
use Rattle.vx_tasks.specs.declared.work.Job.TheVariants.{Read, Confirm, Collect, Attempt, Judge, Close}

-- all that a lease at a moment needs
pub record IsLeasable {P : Type 0} (engine : EngineState P) (i now : ℕ) : Type 0 where
  pub may : (worker : ℕ) → worker_now engine.log worker ≤ now → MayLease engine.log i worker now 0
  pub going : abandoned engine.log ≡ false
  pub fit : IsFitAt engine.states i

-- so many parcels are as many as a batch may have, or the oldest of them has waited long enough
abbrev pub is_full_or_old : Option Batching → ℕ → ℕ → ℕ → Bool
is_full_or_old None since held now = false
is_full_or_old (Some batching) since held now = nat_le batching.max_events held || nat_le (capped (since + batching.timeout)) now

-- so many parcels are as many as a batch may have
abbrev pub is_full : Option Batching → ℕ → Bool
is_full None held = false
is_full (Some batching) held = nat_le batching.max_events held

-- the moment from which on the oldest of them has waited long enough
abbrev pub times_out : Option Batching → ℕ → ℕ
times_out None since = 0
times_out (Some batching) since = capped (since + batching.timeout)

-- an attempt failed before
abbrev pub failed_before : ℕ → Bool
failed_before failures = nat_lt 0 failures

-- how a sink makes its attempts again
abbrev pub schedule_in : Option Batching → Schedule
schedule_in None = record { initial_secs = 0; max_secs = 0; attempts = 0 }
schedule_in (Some batching) = batching.retries

-- the moment from which on what failed so often, and last at a moment, may be attempted again
abbrev pub retry_moment : Schedule → ℕ → ℕ → ℕ
retry_moment schedule failures failed_at =
    if failures == 0 then 0 else capped (failed_at + wait_after schedule.initial_secs schedule.max_secs failures * 1000)

-- a source has this to do
abbrev pub IsSourceJob : Record → ℕ → ℕ → Job → Type 0
IsSourceJob h i now Read = can_read h i now ≡ true
IsSourceJob h i now Confirm = is_confirm_due h i ≡ true
IsSourceJob h i now Collect = ⊥
IsSourceJob h i now Attempt = ⊥
IsSourceJob h i now Judge = ⊥
IsSourceJob h i now Close = is_close_due h i ≡ true

-- a sink has this to do at a moment
abbrev pub IsSinkJob : Record → ℕ → ℕ → Job → Type 0
IsSinkJob h i now Read = ⊥
IsSinkJob h i now Confirm = ⊥
IsSinkJob h i now Collect = can_take h i now ≡ true
IsSinkJob h i now Attempt = is_attempt_due h i now ≡ true
IsSinkJob h i now Judge = ⊥
IsSinkJob h i now Close = is_close_due h i ≡ true

-- a transform has this to do: it judges what is buffered, once all that it put out is on its way
abbrev pub IsTransformJob : Record → ℕ → Job → Type 0
IsTransformJob h i Read = ⊥
IsTransformJob h i Confirm = ⊥
IsTransformJob h i Collect = ⊥
IsTransformJob h i Attempt = ⊥
IsTransformJob h i Judge = (is_sent h i ≡ true) × (is_empty (buffered h i) ≡ false)
IsTransformJob h i Close = ⊥

-- an instance has this to do at a moment
abbrev pub IsJob : Record → ℕ → ℕ → Job → Type 0
IsJob h i now job =
    ((source_at h i ≡ true) × IsSourceJob h i now job) ⊎ (((transform_at h i ≡ true) × IsTransformJob h i job) ⊎ ((sink_at h i ≡ true) × IsSinkJob h i now job))
