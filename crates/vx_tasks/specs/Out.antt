-- What is known of a task that is out, said of the record and the instance alone.
use Rattle.std.specs.Prelude.{◌≡◌, ◌≢◌, IsSomeAnd, ℕ, ◌⊎◌, ◌≤◌, ◌++◌, ◌&&◌, ◌||◌, nat_lt, is_some, is_none, Bool, true, false, List, [], ◌∷◌, length, take, map, Option, Some, None, IfSome, if◌then◌else◌}
use Rattle.std.specs.List.{list_any}
use Rattle.vx_value.specs.Texts.{ByteString}
use Rattle.vx_value.specs.declared.event.Event.{Event}
use Rattle.vx_ends.specs.Observation.{Observation}
use Rattle.vx_ends.specs.declared.position.Position.{Position}
use Rattle.vx_ends.specs.declared.trouble.Reply.{Reply}
use Rattle.vx_ends.specs.declared.trouble.Reply.TheVariants as reply
use Rattle.vx_ledger.specs.declared.parcel.Parcel.{Parcel}
use Rattle.vx_record.specs.declared.entry.Entry.{Entry}
use Rattle.vx_record.specs.declared.entry.Entry.TheVariants as entry
use Rattle.vx_record.specs.Records.{Record, capped}
use Rattle.vx_record.specs.Copies.{joined}
use Rattle.vx_record.specs.Tasks.{out_to}
use Rattle.vx_record.specs.Turns.{at_lease, lease_now, since_lease, is_turn_of, is_attempt_of, is_confirm_of}
use Rattle.vx_plan.specs.declared.component.Component.{Component}
use Rattle.vx_plan.specs.Options.{conditions_of}
use Rattle.vx_record.specs.Installs.{component_of, source_at, transform_at, sink_at, device_at, is_closed}
use Rattle.vx_record.specs.Confirms.{due, is_confirm_due}
use Rattle.vx_record.specs.Reads.{bytes_taken}
use Rattle.vx_record.specs.Sourcing.{failed_starts}
use Rattle.vx_record.specs.Generating.{IsGenerated}
use Rattle.vx_record.specs.SinkBatches.{is_full_batch, is_timed_out, is_last_batch, was_attempted, is_batch_closed, retry_from}
use Rattle.vx_record.specs.Encoding.{given, encoded}
use Rattle.vx_record.specs.Owing.{took_since, owes_discards, owes_answer, is_done}
use Rattle.vx_record.specs.Parcels.{parcel_event}
use Rattle.vx_record.specs.Transforms.{Judge, judges, RunsBy, port_bits, answered_events}
use Rattle.vx_record.specs.Ready.{can_read}
use Rattle.vx_record.specs.Places.Place.{Held}
use Rattle.vx_record.specs.Shifts.{at}
use Rattle.vx_pick.specs.Picks.{AreMeant}
use Rattle.vx_sourcecore.specs.declared.source.Turned.{Turned}
use Rattle.vx_sourcecore.specs.declared.source.Turned.TheVariants as turned
use Rattle.vx_sourcecore.specs.Turns.{Reading, reading_of, cut_of, IsInRoom}
use Rattle.vx_sourcecore.specs.Abreast.{HasTurned}
use Rattle.vx_sourcecore.specs.Generators.{HasMade}
use Rattle.vx_places.specs.Numbers.{numbers, EachFilled}
use Rattle.vx_places.specs.Holding.{AreKnown}
use Rattle.vx_tasks.specs.declared.confirming.Confirmed.{Confirmed}
use Rattle.vx_tasks.specs.declared.landing.Done.{Done}
use Rattle.vx_tasks.specs.declared.landing.Done.TheVariants as done
use Rattle.vx_tasks.specs.declared.landing.Landing.{Landing}
use Rattle.vx_tasks.specs.declared.task.Role.{Role}
use Rattle.vx_tasks.specs.declared.task.Role.TheVariants as role
use Rattle.vx_tasks.specs.declared.work.Job.{Job}
use Rattle.vx_tasks.specs.declared.work.Job.TheVariants as job
use Rattle.vx_tasks.specs.declared.work.Work.{Work}
use Rattle.vx_tasks.specs.Joining.{joins_at}
use Rattle.vx_tasks.specs.Observing.{IsObserved, IsObservedButGiven, GoesBeyond}
use Rattle.vx_tasks.specs.Unleased.{HasCome, StandsAt, HasKept, IsTaskOf}

-- since it was leased an instance took no turn, made no attempt and confirmed nothing, and its port isn't closed for good
pub record IsIdle (h : Record) (i : ℕ) : Type 0 where
  pub no_turn : list_any (is_turn_of i) (since_lease h i) ≡ false
  pub no_attempt : list_any (is_attempt_of i) (since_lease h i) ≡ false
  pub no_confirm : list_any (is_confirm_of i) (since_lease h i) ≡ false
  pub unclosed : is_closed h i ≡ false

-- what the parcels that were lent are: what the record has the instance hold, with the events that it has for them, and a copy each
pub record IsHeld (h : Record) (i : ℕ) (parcels : List Parcel) : Type 0 where
  pub held : numbers parcels ≡ at h (Held i)
  pub known : AreKnown h parcels
  pub filled : EachFilled parcels

-- the newest entry is no Read: a birth stands directly behind its Read, so then none is due
abbrev pub IsUnread : Record → Type 0
IsUnread (entry.Read i stream took ∷ h) = ⊥
IsUnread h = Unit {0}

-- whether the batch of an instance is closed by what the instance did
abbrev pub is_closed_alone : Record → ℕ → Bool
is_closed_alone h i = is_full_batch h i || is_timed_out h i (lease_now h i) || was_attempted h i

-- a sink batch is closed whatever others do: by its own, or as the last one, where no birth is due that could fill the buffer
abbrev pub StaysClosed : Record → ℕ → Type 0
StaysClosed h i = (is_closed_alone h i ≡ true) ⊎ ((is_last_batch h i ≡ true) × IsUnread h)

-- a sink batch is closed, and needn't wait
pub record MayAttemptNow (h : Record) (i : ℕ) : Type 0 where
  pub sink : sink_at h i ≡ true
  pub batch_closed : is_batch_closed h i (lease_now h i) ≡ true
  pub stays : StaysClosed h i
  pub waited : retry_from h i ≤ lease_now h i

-- a source that could be read when it was leased
pub record MayReadNow (h : Record) (i : ℕ) : Type 0 where
  pub source : source_at h i ≡ true
  pub readable : can_read (at_lease h i) i (lease_now h i) ≡ true

-- an instance with a port that was done when it was leased, and had nothing to confirm
pub record MayCloseNow (h : Record) (i : ℕ) : Type 0 where
  pub device : device_at h i ≡ true
  pub over : is_done (at_lease h i) i ≡ true
  pub confirmed : is_confirm_due (at_lease h i) i ≡ false

-- a transform that took something since its last answer, of which all that it discarded is spent
pub record MayJudgeNow (h : Record) (i : ℕ) : Type 0 where
  pub transform : transform_at h i ≡ true
  pub took : took_since h i ≡ true
  pub settled : owes_discards h i ≡ false

-- what a job rests on
abbrev pub IsGiven : Record → ℕ → Job → Type 0
IsGiven h i job.Read = MayReadNow h i
IsGiven h i job.Confirm = Unit {0}
IsGiven h i job.Collect = Unit {0}
IsGiven h i job.Attempt = MayAttemptNow h i
IsGiven h i job.Close = MayCloseNow h i
IsGiven h i job.Judge = MayJudgeNow h i

-- positions that are to be confirmed are those that were due when the instance was leased, and where there are none, none was due
abbrev pub AreDue : Record → ℕ → Option (List Position) → Type 0
AreDue h i None = is_confirm_due (at_lease h i) i ≡ false
AreDue h i (Some positions) = (source_at h i ≡ true) × ((is_confirm_due (at_lease h i) i ≡ true) × (positions ≡ due (at_lease h i) i))

-- whether an instance has no work for a worker: it merges, or what it does is nothing any more
abbrev pub is_unfit : Role → Bool
is_unfit (role.Source core) = false
is_unfit (role.Generator generator) = false
is_unfit (role.Sink codec) = false
is_unfit role.Blackhole = false
is_unfit (role.Transform picker) = false
is_unfit role.Merge = true
is_unfit role.Unfit = true

-- a task as it left, of an instance that doesn't merge; all that its instance discarded is spent, and a transform that isn't to judge has answered what it took
pub record HasLeft {P : Type 0} (observe : P → Observation) (h : Record) (work : Work P) : Type 0 where
  pub out : out_to h work.instance ≡ Some work.worker
  pub idle : IsIdle h work.instance
  pub unleased : IsTaskOf observe h work.instance work.task
  pub kept : HasKept h work.instance work.task.role
  pub held : IsHeld h work.instance work.held.items
  pub asked : AreDue h work.instance work.positions
  pub settled : owes_discards h work.instance ≡ false
  pub untaken : (work.job ≡ job.Judge → ⊥) → owes_answer h work.instance ≡ false
  pub job : IsGiven h work.instance work.job
  pub fit : is_unfit work.task.role ≡ false
  pub alone : joins_at h work.instance ≡ false

-- the entry of a read, and where there is none, of an idle take
abbrev pub read_entry : ℕ → Option Reading → Entry
read_entry i None = entry.Idle i false
read_entry i (Some reading) = entry.Read i reading.stream reading.took

-- the entry that tells a turn: the fifth failed start in a row loses the source, and so does each failed take
abbrev pub turn_entry : Record → ℕ → Turned → Entry
turn_entry h i (turned.Failed at_start) =
    if at_start && nat_lt (failed_starts h i) 4 then entry.Idle i true else entry.SourceLost i (capped (bytes_taken h i)) at_start
turn_entry h i turned.Idle = entry.Idle i false
turn_entry h i (turned.Lines stream n room cut) = read_entry i (reading_of (turned.Lines stream n room cut))
turn_entry h i (turned.StreamEnded stream cut) = read_entry i (reading_of (turned.StreamEnded stream cut))
turn_entry h i (turned.AllEnded stream cut) = read_entry i (reading_of (turned.AllEnded stream cut))

-- the entries that tell what was done with the port: a turn, or an attempt with the parcels that the instance holds
abbrev pub work_entries : Record → ℕ → List Parcel → Done → List Entry
work_entries h i parcels done.Nothing = []
work_entries h i parcels (done.Read turned) = turn_entry h i turned ∷ []
work_entries h i parcels (done.Attempted all sent answer) = entry.Attempt i (joined (numbers parcels)) (take sent all.value) answer ∷ []
work_entries h i parcels (done.Judged ports) = []
work_entries h i parcels done.Closed = []
work_entries h i parcels done.OutOfMemory = []
work_entries h i parcels done.Starved = []

-- and the entry of the confirm before it
abbrev pub confirm_entries : ℕ → Option Confirmed → List Entry
confirm_entries i None = []
confirm_entries i (Some c) = entry.Confirm i c.positions c.made ∷ []

-- a confirm names what was due when the instance was leased; there is none where nothing was due, or no memory was found
abbrev pub IsConfirmedSo : Record → ℕ → Done → Option Confirmed → Type 0
IsConfirmedSo h i done.OutOfMemory None = Unit {0}
IsConfirmedSo h i done None = is_confirm_due (at_lease h i) i ≡ false
IsConfirmedSo h i done (Some c) = AreDue h i (Some c.positions)

-- what the port tells is what the record will have
abbrev pub ReportsDone : Observation → Record → ℕ → List Parcel → Done → Type 0
ReportsDone observed h i parcels done.Starved = IsObservedButGiven observed h i
ReportsDone observed h i parcels done = IsObserved observed (work_entries h i parcels done ++ h) i

-- whether a turn read what no memory was found to cut
abbrev pub lacks_cut : Turned → Bool
lacks_cut turned = is_some (reading_of turned) && is_none (cut_of turned)

-- so its source is of no use any more
abbrev pub leaves_unfit : Done → Bool
leaves_unfit (done.Read turned) = lacks_cut turned
leaves_unfit other = false

-- whether an instance may come back with what it took and hasn't answered: it was judged, or no memory was found
abbrev pub leaves_taken : Done → Bool
leaves_taken done.Nothing = false
leaves_taken (done.Read turned) = false
leaves_taken (done.Attempted all sent answer) = false
leaves_taken (done.Judged ports) = true
leaves_taken done.Closed = false
leaves_taken done.OutOfMemory = true
leaves_taken done.Starved = false

-- what a source does comes back as far as its turn says
abbrev pub HasRoleTurned : Record → ℕ → Role → Turned → Type 0
HasRoleTurned h i (role.Source core) turned = HasTurned h i core turned × (device_at h i ≡ true)
HasRoleTurned h i (role.Generator generator) turned = HasMade h i generator turned × (device_at h i ≡ false)
HasRoleTurned h i (role.Sink codec) turned = ⊥
HasRoleTurned h i role.Blackhole turned = ⊥
HasRoleTurned h i (role.Transform picker) turned = ⊥
HasRoleTurned h i role.Merge turned = ⊥
HasRoleTurned h i role.Unfit turned = Unit {0}

-- what a read took is what a source that makes its lines may give
abbrev pub IsReadable : Record → ℕ → Turned → Type 0
IsReadable h i turned = IfSome (reading_of turned) (λ (reading : Reading). IsGenerated h i reading.stream reading.took)

-- a turn of a source that could be read when it was leased, which brought something unless the source has a port; the source is of no
-- use any more exactly where what it read wasn't cut
pub record HasRead (h : Record) (i : ℕ) (worker_role : Role) (turned : Turned) : Type 0 where
  pub may : MayReadNow h i
  pub come : HasRoleTurned h i worker_role turned
  pub ported : reading_of turned ≡ None → device_at h i ≡ true
  pub readable : IsReadable h i turned
  pub whole : IsInRoom turned
  pub few : IfSome (cut_of turned) (λ cut. length cut.events ≤ 65536)
  pub fit : is_unfit worker_role ≡ lacks_cut turned

-- an attempt of a closed sink batch: the first bytes of what its codec writes of all that it holds, and all of them where the
-- answer is `Ok`, as that of a sink without a port always is
pub record HasAttempted (h : Record) (i : ℕ) (worker_role : Role) (all : ByteString) (sent : ℕ) (answer : Reply) : Type 0 where
  pub may : MayAttemptNow h i
  pub come : HasCome h i worker_role
  pub whole : all ≡ encoded h i (at h (Held i))
  pub within : sent ≤ length all
  pub ok : answer ≡ reply.Ok → sent ≡ length all
  pub blackhole_ok : device_at h i ≡ false → answer ≡ reply.Ok

-- an attempt of a closed sink batch in whose midst no memory was found: the port was given the first bytes of what its codec
-- writes of all that it holds, at least one, and is closed
pub record HasStarved (observed : Observation) (h : Record) (i : ℕ) (worker_role : Role) : Type 0 where
  pub may : MayAttemptNow h i
  pub come : HasCome h i worker_role
  pub beyond : GoesBeyond observed.given (given h i) (encoded h i (at h (Held i)))
  pub shut : observed.started ≡ false

-- a port that was closed for good
pub record HasClosed (observed : Observation) (h : Record) (i : ℕ) (worker_role : Role) : Type 0 where
  pub may : MayCloseNow h i
  pub come : HasCome h i worker_role
  pub shut : observed.started ≡ false

-- the ports on which some events are put out, as bits, each by those that came before it
abbrev pub picked_ports : Judge → List Event → List Event → List ℕ
picked_ports judge earlier [] = []
picked_ports judge earlier (e ∷ es) = port_bits (judge earlier e) ∷ picked_ports judge (earlier ++ e ∷ []) es

-- the events of what an instance holds
abbrev pub events_held : Record → ℕ → List Event
events_held h i = map (parcel_event h) (at h (Held i))

-- each parcel that the instance holds is put out on the ports in its place, which are those that its component says of the event, behind
-- all that it has answered
abbrev pub AreJudged : Record → ℕ → List ℕ → Type 0
AreJudged h i ports =
    (judge : Judge) → RunsBy h i (judges judge) → ports ≡ picked_ports judge (answered_events h i) (events_held h i)

-- all that an instance holds was judged, and if that is anything the conditions of its component mean something; what it keeps stands
-- for that too
pub record HasJudged (h : Record) (i : ℕ) (worker_role : Role) (ports : List ℕ) : Type 0 where
  pub may : MayJudgeNow h i
  pub come : HasCome h i worker_role
  pub judged : AreJudged h i ports
  pub kept : StandsAt worker_role (answered_events h i ++ events_held h i)
  pub meant : at h (Held i) ≢ [] → IsSomeAnd (component_of h i) (λ (c : Component). AreMeant (conditions_of c.settings))

-- what was done
abbrev pub HasActed : Observation → Record → ℕ → Role → Done → Type 0
HasActed observed h i worker_role done.Nothing = HasCome h i worker_role
HasActed observed h i worker_role (done.Read turned) = HasRead h i worker_role turned
HasActed observed h i worker_role (done.Attempted all sent answer) = HasAttempted h i worker_role all.value sent answer
HasActed observed h i worker_role (done.Judged ports) = HasJudged h i worker_role ports
HasActed observed h i worker_role done.Closed = HasClosed observed h i worker_role
HasActed observed h i worker_role done.OutOfMemory = HasCome h i worker_role
HasActed observed h i worker_role done.Starved = HasStarved observed h i worker_role

-- what an instance keeps stands for what it has answered, unless it judged, or no memory was found, which may have been in the midst of
-- judging
abbrev pub IsKeptBy : Record → ℕ → Role → Done → Type 0
IsKeptBy h i does done.Nothing = HasKept h i does
IsKeptBy h i does (done.Read turned) = HasKept h i does
IsKeptBy h i does (done.Attempted all sent answer) = HasKept h i does
IsKeptBy h i does (done.Judged ports) = Unit {0}
IsKeptBy h i does done.Closed = HasKept h i does
IsKeptBy h i does done.OutOfMemory = Unit {0}
IsKeptBy h i does done.Starved = HasKept h i does

-- a task with what was done: its port tells what the record will have
pub record HasDone {P : Type 0} (observe : P → Observation) (h : Record) (landing : Landing P) : Type 0 where
  pub out : out_to h landing.instance ≡ Some landing.worker
  pub idle : IsIdle h landing.instance
  pub held : IsHeld h landing.instance landing.held.items
  pub confirmed : IsConfirmedSo h landing.instance landing.done landing.confirmed
  pub observed : ReportsDone (observe landing.task.port) (confirm_entries landing.instance landing.confirmed ++ h) landing.instance landing.held.items landing.done
  pub acted : HasActed (observe landing.task.port) h landing.instance landing.task.role landing.done
  pub kept : IsKeptBy h landing.instance landing.task.role landing.done
  pub settled : owes_discards h landing.instance ≡ false
  pub untaken : leaves_taken landing.done ≡ false → owes_answer h landing.instance ≡ false
  pub fit : is_unfit landing.task.role ≡ leaves_unfit landing.done
  pub alone : joins_at h landing.instance ≡ false
