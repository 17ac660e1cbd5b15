-- The status of a batch, as the two tables fold it.
use Rattle.std.specs.Prelude.{ℕ, ◌≡◌, List, [], ◌∷◌, ◌++◌, if◌then◌else◌, ◌==◌}
use Rattle.vx_status.specs.declared.outcome.Outcome.{Outcome}
use Rattle.vx_status.specs.declared.event_status.EventStatus.{EventStatus}
use Rattle.vx_status.specs.declared.batch_status.BatchStatus.{BatchStatus}
use Rattle.vx_status.specs.declared.event_status.EventStatus.TheVariants.{Dropped}
use Rattle.vx_status.specs.declared.batch_status.BatchStatus.TheVariants.{Delivered}
use Rattle.vx_status.specs.Tables.{status_of, event_update, batch_update, IsGood}
use Rattle.vx_record.specs.Records.{Record}
use Rattle.vx_record.specs.declared.entry.Entry.TheVariants.{Spent}
use Rattle.vx_record.specs.Batches.{root_of, batch_of, roots}

-- how the descendants of a root were spent, the first spent first
abbrev pub outcomes : Record → ℕ → List Outcome
outcomes [] r = []
outcomes (Spent i c outcome ∷ h) r = if root_of h c == r then outcomes h r ++ outcome ∷ [] else outcomes h r
outcomes (e ∷ h) r = outcomes h r

-- an event's status after some outcomes
abbrev pub event_fold : EventStatus → List Outcome → EventStatus
event_fold status [] = status
event_fold status (outcome ∷ rest) = event_fold (event_update status (status_of outcome)) rest

-- an event's status: the fold over how its copies were spent
abbrev pub event_status : Record → ℕ → EventStatus
event_status h r = event_fold Dropped (outcomes h r)

-- a batch's status after some events
abbrev pub batch_fold : (ℕ → EventStatus) → BatchStatus → List ℕ → BatchStatus
batch_fold of_event status [] = status
batch_fold of_event status (r ∷ rest) = batch_fold of_event (batch_update status (of_event r)) rest

-- a batch's status: the fold over its events
abbrev pub batch_status : Record → ℕ → BatchStatus
batch_status h b = batch_fold (event_status h) Delivered (roots h b)

-- the status that each Spent is folded into as it comes
abbrev pub running : Record → ℕ → BatchStatus
running [] b = Delivered
running (Spent i c outcome ∷ h) b =
    if batch_of h c == b then batch_update (running h b) (status_of outcome) else running h b
running (e ∷ h) b = running h b

-- each outcome of the batch so far is good
abbrev pub AllGood : Record → ℕ → Type 0
AllGood [] b = Unit {0}
AllGood (Spent i c outcome ∷ h) b = (batch_of h c ≡ b → IsGood outcome) × AllGood h b
AllGood (e ∷ h) b = AllGood h b
