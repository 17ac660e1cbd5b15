-- The laws over every legal record, and over every record of which some of that holds.
use Rattle.std.specs.Prelude.{ℕ, ◌+◌, ◌^◌, ◌<◌, ◌≤◌, ◌≡◌, true, false, Option, Some, None, List, [], ◌∷◌, ◌++◌, length, drop, slice_get, map, if◌then◌else◌, ◌==◌, ◌↔◌, codes}
use Rattle.std.specs.Str.Lossy.{utf8_lossy}
use Rattle.vx_value.specs.Texts.{ByteString}
use Rattle.vx_value.specs.Datum.{NamedDatum, Words}
use Rattle.vx_value.specs.declared.event.Event.{Event}
use Rattle.vx_codec.specs.declared.decoding.Decoding.{Decoding}
use Rattle.vx_codec.specs.declared.decoding.Decoding.TheVariants as decoding
use Rattle.vx_json.specs.LineEvents.{IsLineEvent}
use Rattle.vx_plan.specs.declared.settings.Settings.{Settings}
use Rattle.vx_plan.specs.Options.{type_name, file_read}
use Rattle.vx_plan.specs.declared.stage.Stage.{Stage}
use Rattle.vx_ends.specs.declared.trouble.Reply.{Reply}
use Rattle.vx_record.specs.Records.{Record, capped}
use Rattle.vx_record.specs.Turns.{lease_now}
use Rattle.vx_record.specs.Installs.{transform_at}
use Rattle.vx_record.specs.declared.child.Child.{Child}
use Rattle.vx_frame.specs.Frames.{Frame}
use Rattle.vx_record.specs.Reads.{line_events}
use Rattle.vx_record.specs.Parcels.{event_of, first_copy, port_list}
use Rattle.vx_record.specs.Stages.{stages_of}
use Rattle.vx_record.specs.SinkBatches.{failures_with, failed_at, wait_after}
use Rattle.vx_record.specs.Routing.{routes}
use Rattle.vx_record.specs.Abandoning.{abandoned}
use Rattle.vx_record.specs.Confirms.{Birth, confirm_prefix}
use Rattle.vx_status.specs.declared.outcome.Outcome.{Outcome}
use Rattle.vx_status.specs.declared.batch_status.BatchStatus.{BatchStatus}
use Rattle.vx_status.specs.declared.batch_status.BatchStatus.TheVariants.{Delivered}
use Rattle.vx_record.specs.declared.entry.Entry.TheVariants.{Lease, Split, Push, Answer, Attempt, Spent, Notice}
use Rattle.vx_record.specs.Copies.{count, joined, next_copy, times_split, times_spent, IsLive}
use Rattle.vx_record.specs.Batches.{batch_of, batches, has_live, awaits_notice}
use Rattle.vx_record.specs.Statuses.{batch_status, running, AllGood}
use Rattle.vx_record.specs.Lists.{places, stands, parcels_at, contents, held, times_among}
use Rattle.vx_record.specs.Inputs.{inputs, unanswered, answered, has_tick}
use Rattle.vx_record.specs.Owing.{last_discarded}
use Rattle.vx_record.specs.declared.output.Output.{Output}
use Rattle.vx_record.specs.Places.{Place}
use Rattle.vx_record.specs.Moving.{IsConserved}
use Rattle.vx_record.specs.Accounting.{IsAccounted}
use Rattle.vx_record.specs.Legal.{IsLegal, IsClosed}

-- In the records of a kind, each copy that a record made by then was split once, or was spent once, or stands in one place,
-- once: exactly one of the three. The part `earlier` of a record is what stood there before the entries `later`.
abbrev pub CopiesOnce : (Record → Type 0) → Type 0
CopiesOnce Is =
    (later earlier : Record) → Is (later ++ earlier) → (c : ℕ) → c < next_copy earlier →
    times_split earlier c + times_spent earlier c + length (places earlier c) ≡ 1

-- a copy is live exactly where it stands in a place
abbrev pub LiveStandsIn : (Record → Type 0) → Type 0
LiveStandsIn Is = (h : Record) → Is h → (c : ℕ) → IsLive h c ↔ (0 < length (places h c))

-- each copy is so in every legal record
abbrev pub OnePlace : Type 0
OnePlace = CopiesOnce IsLegal

-- a legal record conserves copies
abbrev pub LegalConserved : Type 0
LegalConserved = (h : Record) → IsLegal h → IsConserved h

-- each copy is in one place in every record that conserves copies, legal or not
abbrev pub ConservedPlace : Type 0
ConservedPlace = CopiesOnce IsConserved

-- and is live exactly where it stands in a place
abbrev pub ConservedLive : Type 0
ConservedLive = LiveStandsIn IsConserved

-- how often a batch was noticed
abbrev pub times_noticed : Record → ℕ → ℕ
times_noticed [] b = 0
times_noticed (Notice b' status ∷ h) b = (if b' == b then 1 else 0) + times_noticed h b
times_noticed (e ∷ h) b = times_noticed h b

-- in each record of a kind, each batch of which no copy is live has exactly one Notice, unless the record ends where that Notice is due
abbrev pub NoticesOnce : (Record → Type 0) → Type 0
NoticesOnce Is =
    (h : Record) → Is h → (b : ℕ) → 0 < count b (batches h) → has_live h b ≡ false → awaits_notice h b ≡ false → times_noticed h b ≡ 1

-- none comes while a copy of the batch is live
abbrev pub NoticesLate : (Record → Type 0) → Type 0
NoticesLate Is = (h : Record) → Is h → (b c : ℕ) → batch_of h c ≡ b → IsLive h c → times_noticed h b ≡ 0

-- a Notice stands where the last live copy was just spent, and has the status that the tables fold
abbrev pub NoticesSo : (Record → Type 0) → Type 0
NoticesSo Is =
    (later earlier : Record) (b : ℕ) (status : BatchStatus) → Is (later ++ Notice b status ∷ earlier) →
    (awaits_notice earlier b ≡ true) × (status ≡ batch_status earlier b)

-- and says Delivered exactly where each outcome of the batch in the whole record, also behind it, is good
abbrev pub NoticesReport : (Record → Type 0) → Type 0
NoticesReport Is =
    (later earlier : Record) (b : ℕ) (status : BatchStatus) → Is (later ++ Notice b status ∷ earlier) →
    (status ≡ Delivered) ↔ AllGood (later ++ Notice b status ∷ earlier) b

-- so it is in each legal record: each batch whose copies are gone has one Notice
abbrev pub OneNotice : Type 0
OneNotice = NoticesOnce IsLegal

-- and none before
abbrev pub NoEarlyNotice : Type 0
NoEarlyNotice = NoticesLate IsLegal

-- so where nothing is left to do, each batch has exactly one
abbrev pub OneNoticeAtLast : Type 0
OneNoticeAtLast = (h : Record) → IsLegal h → IsClosed h → (b : ℕ) → 0 < count b (batches h) → times_noticed h b ≡ 1

-- a Notice comes at once, with the status of the tables
abbrev pub NoticeAtOnce : Type 0
NoticeAtOnce = NoticesSo IsLegal

-- no copy of a batch is spent behind its Notice
abbrev pub NoSpentAfterNotice : Type 0
NoSpentAfterNotice =
    (later earlier : Record) (i c : ℕ) (outcome : Outcome) → IsLegal (later ++ Spent i c outcome ∷ earlier) →
    times_noticed earlier (batch_of earlier c) ≡ 0

-- and tells what became of its batch
abbrev pub NoticeReports : Type 0
NoticeReports = NoticesReport IsLegal

-- a legal record gives each batch its notice
abbrev pub LegalAccounted : Type 0
LegalAccounted = (h : Record) → IsLegal h → IsAccounted h

-- the same laws of every record that does, legal or not
abbrev pub AccountedOnce : Type 0
AccountedOnce = NoticesOnce IsAccounted

abbrev pub AccountedLate : Type 0
AccountedLate = NoticesLate IsAccounted

abbrev pub AccountedSo : Type 0
AccountedSo = NoticesSo IsAccounted

abbrev pub AccountedReports : Type 0
AccountedReports = NoticesReport IsAccounted

-- what stood there before some entries of a legal record is legal
abbrev pub BeginningLegal : Type 0
BeginningLegal = (later earlier : Record) → IsLegal (later ++ earlier) → IsLegal earlier

-- folding each spend into one status of the batch, in whatever order the copies are spent, gives the tables' status
abbrev pub RunningStatus : Type 0
RunningStatus = (h : Record) (b : ℕ) → IsLegal h → running h b ≡ batch_status h b

-- `places` counts right: a copy stands as often in the list of a place as that place is among the copy's places
abbrev pub PlacesMeant : Type 0
PlacesMeant = (h : Record) (c : ℕ) (p : Place) → count c (joined (parcels_at p (stands h))) ≡ times_among p (places h c)

-- a copy is live exactly where it stands in a place
abbrev pub LiveStands : Type 0
LiveStands = LiveStandsIn IsLegal

-- a batch is delivered exactly where the outcome of each of its spent copies is good
abbrev pub DeliveredWhereGood : Type 0
DeliveredWhereGood = (h : Record) (b : ℕ) → IsLegal h → (batch_status h b ≡ Delivered) ↔ AllGood h b

-- any two copies of a parcel have the same event
abbrev pub HaveOneEvent : Record → List ℕ → Type 0
HaveOneEvent h parcel = (c d : ℕ) → 0 < count c parcel → 0 < count d parcel → event_of h c ≡ event_of h d

-- of each of some parcels the copies have one event
abbrev pub EachHasOneEvent : Record → List (List ℕ) → Type 0
EachHasOneEvent h [] = Unit {0}
EachHasOneEvent h (parcel ∷ rest) = HaveOneEvent h parcel × EachHasOneEvent h rest

-- wherever a parcel stands, its copies have one event
abbrev pub OneEvent : Type 0
OneEvent = (h : Record) (p : Place) → IsLegal h → EachHasOneEvent h (parcels_at p (stands h))

-- all that a transform was given it has answered or not yet, the latest first
abbrev pub InputsParted : Type 0
InputsParted = (h : Record) (i : ℕ) → inputs h i ≡ unanswered h i ++ answered h i

-- behind an Answer a transform holds what that discarded and kept, and nothing else
abbrev pub AnswerHolds : Type 0
AnswerHolds =
    (h : Record) (i : ℕ) (outputs : List Output) (discarded kept : List ℕ) → IsLegal (Answer i outputs discarded kept ∷ h) →
    (c : ℕ) → count c (joined (held (Answer i outputs discarded kept ∷ h) i)) ≡ count c discarded + count c kept

-- so behind a flush it holds only what that discarded
abbrev pub FlushEmpties : Type 0
FlushEmpties =
    (h : Record) (i : ℕ) (outputs : List Output) (discarded kept : List ℕ) → IsLegal (Answer i outputs discarded kept ∷ h) →
    unanswered h i ≡ [] → (c : ℕ) → count c (joined (held (Answer i outputs discarded kept ∷ h) i)) ≡ count c discarded

-- nothing stays of what a transform discarded once it is leased again
abbrev pub DiscardsGo : Type 0
DiscardsGo =
    (later earlier : Record) (i worker now polls : ℕ) → IsLegal (later ++ Lease i worker now polls ∷ earlier) →
    (c : ℕ) → 0 < count c (last_discarded earlier i) → 0 < times_spent earlier c

-- of what a transform has not answered, only the latest is a tick: it answers the parcels that it took, and then the tick
abbrev pub TickLast : Type 0
TickLast = (h : Record) (i : ℕ) → IsLegal h → transform_at h i ≡ true → has_tick (drop 1 (unanswered h i)) ≡ false

-- a parcel enters the first stage of its target that isn't full: that has room, and each before it has none
abbrev pub PushesFirst : Type 0
PushesFirst =
    (later earlier : Record) (i t s : ℕ) (copies : List ℕ) → IsLegal (later ++ Push i t s copies ∷ earlier) →
    (r : ℕ) (stage : Stage) → slice_get (stages_of earlier t) r ≡ Some stage →
    (r < s → stage.max_events ≤ length (contents earlier t r)) × (r ≡ s → length (contents earlier t r) < stage.max_events)

-- what failed before is attempted no sooner than its wait behind the last time
abbrev pub AttemptsWait : Type 0
AttemptsWait =
    (later earlier : Record) (i : ℕ) (copies : List ℕ) (bytes : ByteString) (reply : Reply) →
    IsLegal (later ++ Attempt i copies bytes reply ∷ earlier) → 0 < failures_with earlier i (first_copy copies) →
    capped (failed_at earlier i (first_copy copies) + wait_after earlier i (failures_with earlier i (first_copy copies))) ≤ lease_now earlier i

-- copies are numbered below 2 ^ 63
abbrev pub NumbersBounded : Type 0
NumbersBounded = (h : Record) → IsLegal h → next_copy h ≤ 2 ^ 63

-- each Split's children go to the targets that its instance has there, in order
abbrev pub RoutingKept : Type 0
RoutingKept =
    (later earlier : Record) (i ports : ℕ) (copies : List ℕ) (event : Event) (children : List Child) →
    IsLegal (later ++ Split i ports copies event children ∷ earlier) →
    map (λ (child : Child). child.target) children ≡ routes earlier i (port_list ports)

-- no instance is leased after an Abandon
abbrev pub NoLeaseAfterAbandon : Type 0
NoLeaseAfterAbandon =
    (later earlier : Record) (i worker now polls : ℕ) → IsLegal (later ++ Lease i worker now polls ∷ earlier) → abandoned earlier ≡ false

-- later entries only add to the births that may be confirmed
abbrev pub PrefixGrows : Type 0
PrefixGrows =
    (later earlier : Record) (i : ℕ) → (more : List Birth) × (confirm_prefix (later ++ earlier) i ≡ confirm_prefix earlier i ++ more)

-- a line gives an event exactly where that is the event of the line
abbrev pub LineGives : Type 0
LineGives =
    (d : Decoding) (settings : Settings) (line : Frame) (fields : List NamedDatum) →
    (line_events d settings line ≡ record { fields = fields } ∷ []) ↔ IsLineEvent d (type_name settings) (file_read settings) line.bytes fields

-- and none exactly where no event is the line's
abbrev pub LineGivesNone : Type 0
LineGivesNone =
    (d : Decoding) (settings : Settings) (line : Frame) →
    (line_events d settings line ≡ []) ↔ ((fields : List NamedDatum) → IsLineEvent d (type_name settings) (file_read settings) line.bytes fields → ⊥)

-- the path of the file of a source, if it reads one
abbrev pub file_fields : Option ByteString → List NamedDatum
file_fields None = []
file_fields (Some path) = record { name = codes "file"; value = Words path } ∷ []

-- the fields of a line's event under codec bytes: the path of its file, if there is one, the line as a text, and the type of its source
abbrev pub text_fields : Settings → ByteString → List NamedDatum
text_fields settings text =
    file_fields (file_read settings)
    ++ record { name = codes "message"; value = Words (utf8_lossy text) } ∷ record { name = codes "source_type"; value = Words (type_name settings) } ∷ []

-- under codec bytes a line always gives one event
abbrev pub TextGives : Type 0
TextGives = (settings : Settings) (line : Frame) → line_events decoding.Bytes settings line ≡ record { fields = text_fields settings line.bytes } ∷ []
