-- The rows of Spent and Notice.
use Rattle.std.specs.Prelude.{ℕ, ◌<◌, ◌≤◌, ◌≡◌, true, false, Option, Some, None, List, [], ◌∷◌, ◌==◌, map, if◌then◌else◌}
use Rattle.vx_ends.specs.declared.trouble.Reply.{Reply}
use Rattle.vx_ends.specs.declared.trouble.Reply.TheVariants as reply
use Rattle.vx_status.specs.declared.outcome.Outcome.{Outcome}
use Rattle.vx_status.specs.declared.outcome.Outcome.TheVariants.{Delivered, Filtered, NewestDropped, NoConsumer, Attempts, Abandoned, Refusal}
use Rattle.vx_status.specs.declared.batch_status.BatchStatus.{BatchStatus}
use Rattle.vx_record.specs.declared.entry.Entry.TheVariants.{Attempt}
use Rattle.vx_record.specs.Records.{Record}
use Rattle.vx_record.specs.Copies.{count, IsLive}
use Rattle.vx_record.specs.Places.{owner}
use Rattle.vx_record.specs.Lists.{outputs, waiting, all_waiting, places}
use Rattle.vx_record.specs.Turns.{is_out}
use Rattle.vx_record.specs.Parcels.{parcel_ports, port_list}
use Rattle.vx_record.specs.Routing.{routes}
use Rattle.vx_record.specs.Stages.{stages_of, first_room, last_drops}
use Rattle.vx_record.specs.SinkBatches.{failures_with, attempts_allowed}
use Rattle.vx_record.specs.Owing.{last_discarded}
use Rattle.vx_record.specs.Abandoning.{abandoned}
use Rattle.vx_record.specs.Batches.{awaits_notice}
use Rattle.vx_record.specs.Statuses.{batch_status}

-- the copies of the instance's last Attempt
abbrev pub last_attempted : Record → ℕ → List ℕ
last_attempted [] i = []
last_attempted (Attempt j copies bytes reply ∷ h) i = if j == i then copies else last_attempted h i
last_attempted (e ∷ h) i = last_attempted h i

-- the reply to the instance's last Attempt
abbrev pub last_reply : Record → ℕ → Option Reply
last_reply [] i = None
last_reply (Attempt j copies bytes reply ∷ h) i = if j == i then Some reply else last_reply h i
last_reply (e ∷ h) i = last_reply h i

-- the oldest of some parcels, and no copy where there is none
abbrev pub oldest : List (List ℕ) → List ℕ
oldest [] = []
oldest (parcel ∷ younger) = parcel

-- the instance's last Attempt had the copy and was answered so
pub record WasAnswered (h : Record) (i c : ℕ) (answer : Reply) : Type 0 where
  pub had : 0 < count c (last_attempted h i)
  pub answered : last_reply h i ≡ Some answer

-- the copy is in the oldest child for a target that is full and drops the newest
pub record WasNewest (h : Record) (i c t : ℕ) : Type 0 where
  pub next : 0 < count c (oldest (waiting h i t))
  pub full : first_room h t ≡ None
  pub drops : last_drops (stages_of h t) ≡ true

-- the copy is in the oldest output, whose ports have no target
pub record HadNoTarget (h : Record) (i c : ℕ) : Type 0 where
  pub next : 0 < count c (oldest (outputs h i))
  pub none_waits : all_waiting h i ≡ []
  pub no_target : routes h i (port_list (parcel_ports h (oldest (outputs h i)))) ≡ []

-- what each outcome needs
abbrev pub HasCause : Record → ℕ → ℕ → Outcome → Type 0
HasCause h i c Delivered = WasAnswered h i c reply.Ok
HasCause h i c Refusal = WasAnswered h i c reply.Refused
HasCause h i c Attempts = attempts_allowed h i ≤ failures_with h i c
HasCause h i c Filtered = 0 < count c (last_discarded h i)
HasCause h i c NewestDropped = (t : ℕ) × WasNewest h i c t
HasCause h i c NoConsumer = HadNoTarget h i c
HasCause h i c Abandoned = (abandoned h ≡ true) × (is_out h i ≡ false)

-- a live copy is spent once, where it stands, and for a cause
pub record MaySpend (h : Record) (i c : ℕ) (outcome : Outcome) : Type 0 where
  pub live : IsLive h c
  pub here : 0 < count i (map owner (places h c))
  pub cause : HasCause h i c outcome

-- a Notice comes where it is due, with the status that the tables fold
pub record MayNotice (h : Record) (b : ℕ) (status : BatchStatus) : Type 0 where
  pub due : awaits_notice h b ≡ true
  pub folded : status ≡ batch_status h b
