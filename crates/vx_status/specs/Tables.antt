-- The status of each outcome, and the two tables that fold statuses.
use Rattle.std.specs.Prelude.{ℕ}
use Rattle.vx_status.specs.declared.outcome.Outcome.{Outcome}
use Rattle.vx_status.specs.declared.event_status.EventStatus.{EventStatus}
use Rattle.vx_status.specs.declared.batch_status.BatchStatus.{BatchStatus}
use Rattle.vx_status.specs.declared.outcome.Outcome.TheVariants as outcome
use Rattle.vx_status.specs.declared.event_status.EventStatus.TheVariants as event
use Rattle.vx_status.specs.declared.batch_status.BatchStatus.TheVariants as batch

-- the status that an outcome counts as
abbrev pub status_of : Outcome → EventStatus
status_of outcome.Delivered = event.Delivered
status_of outcome.Filtered = event.Dropped
status_of outcome.NewestDropped = event.Dropped
status_of outcome.NoConsumer = event.Dropped
status_of outcome.Attempts = event.Errored
status_of outcome.Abandoned = event.Errored
status_of outcome.Refusal = event.Rejected

-- an event's status after one more outcome
abbrev pub event_update : EventStatus → EventStatus → EventStatus
event_update event.Dropped new = new
event_update event.Delivered event.Dropped = event.Delivered
event_update event.Delivered new = new
event_update event.Errored event.Rejected = event.Rejected
event_update event.Errored new = event.Errored
event_update event.Rejected new = event.Rejected

-- a batch's status after one more event
abbrev pub batch_update : BatchStatus → EventStatus → BatchStatus
batch_update batch.Delivered event.Dropped = batch.Delivered
batch_update batch.Delivered event.Delivered = batch.Delivered
batch_update batch.Delivered event.Errored = batch.Errored
batch_update batch.Delivered event.Rejected = batch.Rejected
batch_update batch.Errored event.Rejected = batch.Rejected
batch_update batch.Errored new = batch.Errored
batch_update batch.Rejected new = batch.Rejected

-- the outcomes that leave a batch Delivered
abbrev pub IsGood : Outcome → Type 0
IsGood outcome.Delivered = Unit {0}
IsGood outcome.Filtered = Unit {0}
IsGood outcome.NewestDropped = Unit {0}
IsGood outcome.NoConsumer = Unit {0}
IsGood other = ⊥

-- how bad an event's status is, from 0 to 3
abbrev pub event_rank : EventStatus → ℕ
event_rank event.Dropped = 0
event_rank event.Delivered = 1
event_rank event.Errored = 2
event_rank event.Rejected = 3

-- how bad a batch's status is, on the same scale
abbrev pub batch_rank : BatchStatus → ℕ
batch_rank batch.Delivered = 1
batch_rank batch.Errored = 2
batch_rank batch.Rejected = 3
