-- What every legal record says of its entries beside their rows. None of it is a rule: all follows from the rows.
use Rattle.std.specs.Prelude.{◌≡◌, ℕ, ◌<◌, ◌⊎◌, ◌||◌, true, false, List, Some, None, [], ◌∷◌, is_some, length, slice_get}
use Rattle.vx_ends.specs.declared.trouble.Reply.{Reply}
use Rattle.vx_ends.specs.declared.trouble.Reply.TheVariants as reply
use Rattle.vx_status.specs.declared.outcome.Outcome.{Outcome}
use Rattle.vx_status.specs.declared.outcome.Outcome.TheVariants.{Delivered, Attempts, Refusal, Abandoned, NoConsumer, Filtered, NewestDropped}
use Rattle.vx_value.specs.declared.event.Event.{Event}
use Rattle.vx_plan.specs.Accepted.{IsPlan}
use Rattle.vx_plan.specs.declared.component.Component.{Component}
use Rattle.vx_plan.specs.declared.plan.Plan.{Plan}
use Rattle.vx_plan.specs.Options.{encoding}
use Rattle.vx_record.specs.Records.{Record}
use Rattle.vx_record.specs.declared.child.Child.{Child}
use Rattle.vx_record.specs.declared.entry.Entry.TheVariants.{Spent}
use Rattle.vx_record.specs.declared.abandon_cause.AbandonCause.TheVariants.{Grace}
use Rattle.vx_record.specs.Copies.{count, joined, children_of, next_copy, times_spent}
use Rattle.vx_record.specs.Lists.{held, outputs, is_bare}
use Rattle.vx_record.specs.Turns.{lease_now}
use Rattle.vx_record.specs.Routing.{is_dry}
use Rattle.vx_record.specs.Installs.{in_force, component_of, component_or, source_at, transform_at, device_at}
use Rattle.vx_record.specs.Abandoning.{abandoned}
use Rattle.vx_record.specs.Starting.{MayLease}
use Rattle.vx_record.specs.Sourcing.{MayTurn}
use Rattle.vx_record.specs.Sinking.{MayAttempt}
use Rattle.vx_record.specs.SinkBatches.{attempts_with, failures_with, attempts_allowed, oldest_held, is_full_batch, is_timed_out, is_last_batch}
use Rattle.vx_record.specs.Owing.{decided}
use Rattle.vx_record.specs.Parcels.{parcel_ports, port_list}
use Rattle.vx_record.specs.Sending.{MaySplit}
use Rattle.vx_record.specs.Spending.{oldest, MaySpend, WasAnswered}
use Rattle.vx_record.specs.Ending.{MayClose, MayRetire, MayAbandon}
use Rattle.vx_record.specs.Legal.{IsLegal}
use Rattle.vx_record.specs.Ceasing.{lost_at, readers_at, readers_on, TakesNoMore}

-- a source that reads, finds nothing or is lost wasn't lost before
abbrev pub TurnUnlost : Type 0
TurnUnlost = (h : Record) (i : ℕ) → IsLegal h → MayTurn h i → lost_at h i ≡ None

-- nor is it dry: it wasn't told the end of all, and doesn't drain
abbrev pub TurnUndry : Type 0
TurnUndry = (h : Record) (i : ℕ) → IsLegal h → MayTurn h i → is_dry h i ≡ false

-- a source whose port is closed for good was told the end of all, or was lost, or the run was given up
abbrev pub ClosedTakesNoMore : Type 0
ClosedTakesNoMore = (h : Record) (i : ℕ) → IsLegal h → MayClose h i → source_at h i ≡ true → TakesNoMore h i

-- what is leased runs a component
abbrev pub LeasedRuns : Type 0
LeasedRuns = (h : Record) (i worker now polls : ℕ) → MayLease h i worker now polls → is_some (component_of h i) ≡ true

-- and has spent each copy of which an attempt of it decided
abbrev pub LeasedSpent : Type 0
LeasedSpent =
    (h : Record) (i worker now polls c : ℕ) → MayLease h i worker now polls → 0 < count c (joined (decided h i)) → 0 < times_spent h c

-- the plan in force may be installed
abbrev pub InForceAccepted : Type 0
InForceAccepted = (h : Record) (plan : Plan) → IsLegal h → in_force h ≡ Some plan → IsPlan plan

-- so an instance runs the component in its place, and there is no other
abbrev pub ComponentInPlace : Type 0
ComponentInPlace = (h : Record) (plan : Plan) (i : ℕ) → IsLegal h → in_force h ≡ Some plan → component_of h i ≡ slice_get plan.components i

-- nothing stands at what is retired
abbrev pub RetiredBare : Type 0
RetiredBare = (h : Record) (i : ℕ) → IsLegal h → MayRetire h i → is_bare h i ≡ true

-- no run is given up for a limit after a stop
abbrev pub UnaskedToStop : Type 0
UnaskedToStop = (h : Record) (stopped now limit : ℕ) → MayAbandon h (Grace stopped now limit) → ⊥

-- behind an abandonment copies are spent only as abandoned
abbrev pub SpentAbandoned : Type 0
SpentAbandoned = (h : Record) (i c : ℕ) (outcome : Outcome) → IsLegal (Spent i c outcome ∷ h) → abandoned h ≡ true → outcome ≡ Abandoned

-- only transforms filter
abbrev pub TransformsFilter : Type 0
TransformsFilter = (h : Record) (i c : ℕ) → IsLegal h → MaySpend h i c Filtered → transform_at h i ≡ true

-- a copy without a consumer stood in an output none of whose ports anybody reads
abbrev pub UnconsumedUnread : Type 0
UnconsumedUnread = (h : Record) (i c : ℕ) → MaySpend h i c NoConsumer → readers_on h i (port_list (parcel_ports h (oldest (outputs h i)))) ≡ []

-- at a source nobody reads the first
abbrev pub SourceUnread : Type 0
SourceUnread = (h : Record) (i c : ℕ) → IsLegal h → source_at h i ≡ true → MaySpend h i c NoConsumer → readers_at h i ≡ []

-- an outcome that a device or a transform decided
abbrev pub IsDecided : Outcome → Type 0
IsDecided Delivered = Unit {0}
IsDecided Attempts = Unit {0}
IsDecided Refusal = Unit {0}
IsDecided Filtered = Unit {0}
IsDecided NewestDropped = ⊥
IsDecided NoConsumer = ⊥
IsDecided Abandoned = ⊥

-- a copy of which one decided is held by the instance
abbrev pub DecidedHeld : Type 0
DecidedHeld = (h : Record) (i c : ℕ) (outcome : Outcome) → IsLegal h → IsDecided outcome → MaySpend h i c outcome → 0 < count c (joined (held h i))

-- of what is attempted each attempt before failed, and fewer failed than may
abbrev pub HeldFailed : Type 0
HeldFailed =
    (h : Record) (i : ℕ) (copies bytes : List ℕ) (answer : Reply) (c : ℕ) → IsLegal h → MayAttempt h i copies bytes answer →
    0 < count c (joined (held h i)) → (attempts_with h i c ≡ failures_with h i c) × (failures_with h i c < attempts_allowed h i)

-- a copy for which attempts failed was in the last attempt of the instance, and that failed
abbrev pub SpentFailed : Type 0
SpentFailed = (h : Record) (i c : ℕ) → IsLegal h → MaySpend h i c Attempts → WasAnswered h i c reply.Failed

-- a split is for the instances that read its ports, a port after the other
abbrev pub SplitReaders : Type 0
SplitReaders =
    (h : Record) (i ports : ℕ) (copies : List ℕ) (event : Event) (children : List Child) → MaySplit h i ports copies event children →
    children ≡ children_of (next_copy h) (length copies) (readers_on h i (port_list ports))

-- a source's is for those that read its first port
abbrev pub SourceSplits : Type 0
SourceSplits =
    (h : Record) (i ports : ℕ) (copies : List ℕ) (event : Event) (children : List Child) → IsLegal h → source_at h i ≡ true →
    MaySplit h i ports copies event children → children ≡ children_of (next_copy h) (length copies) (readers_at h i)

-- an attempt names a copy
abbrev pub AttemptNames : Type 0
AttemptNames = (h : Record) (i : ℕ) (copies bytes : List ℕ) (answer : Reply) → MayAttempt h i copies bytes answer → 0 < length copies

-- what is attempted is full, or old enough at the moment of the lease, or the last, or it failed before
abbrev pub AttemptDue : Type 0
AttemptDue =
    (h : Record) (i : ℕ) (copies bytes : List ℕ) (answer : Reply) → IsLegal h → MayAttempt h i copies bytes answer →
    ((is_full_batch h i || is_timed_out h i (lease_now h i) || is_last_batch h i) ≡ true) ⊎ (0 < failures_with h i (oldest_held h i))

-- what makes an attempt by a port has a codec
abbrev pub AttemptEncodes : Type 0
AttemptEncodes =
    (h : Record) (i : ℕ) (copies bytes : List ℕ) (answer : Reply) → IsLegal h → MayAttempt h i copies bytes answer → device_at h i ≡ true →
    component_or false (λ (c : Component). is_some (encoding c.settings)) h i ≡ true
