-- How one more entry changes what an instance did: bytes, confirms and counts.
use Rattle.std.specs.Prelude.{ℕ, ◌+◌, ◌≡◌, Bool, true, false, not, ◌&&◌, List, [], ◌∷◌, ◌++◌, length, count_by, if◌then◌else◌, ◌==◌}
use Rattle.vx_value.specs.Texts.{ByteString}
use Rattle.vx_status.specs.Tables.{status_of}
use Rattle.vx_status.specs.declared.outcome.Outcome.{Outcome}
use Rattle.vx_status.specs.declared.event_status.EventStatus.{EventStatus}
use Rattle.vx_status.specs.declared.batch_status.BatchStatus.{BatchStatus}
use Rattle.vx_record.specs.declared.entry.Entry.{Entry}
use Rattle.vx_record.specs.declared.entry.Entry.TheVariants.{Lease, Home, Read, Idle, SourceLost, Born, Take, Tick, Answer, Attempt, Spent, Notice, Closed, Retired, Abandon}
use Rattle.vx_record.specs.Records.{Record}
use Rattle.vx_record.specs.Reads.{bytes_of, taken, bytes_taken, ended_by, ended_streams, new_lines, new_overlong, new_undecodable}
use Rattle.vx_record.specs.Encoding.{given_in, given}
use Rattle.vx_record.specs.Confirms.{births_in, births, confirmed_in, confirmed}
use Rattle.vx_record.specs.Places.{Place}
use Rattle.vx_record.specs.Parcels.{first_copy}
use Rattle.vx_record.specs.Legal.{IsLegal}
use Rattle.vx_record.specs.Tallies.{is_unread, is_newest, is_output, is_child_for, first_spent, same_status, spent_as, is_held_by, parcels_that, unread_parcels, newest_parcels, parcels_spent, lines_read, overlong_read, undecodable_read, events_born, same_end, is_batch_of, notices, takes, is_first, sent_parcels, dropped_parcels, attempts_made, bytes_sent, tally}

-- the bytes of a stream that an entry took for the instance
abbrev pub taken_in : ℕ → ℕ → Entry → ByteString
taken_in i stream (Read j stream' took) = if (j == i) && (stream' == stream) then bytes_of took else []
taken_in i stream other = []

-- a Read adds its bytes to its stream; no other entry does
abbrev pub TakenGrows : Type 0
TakenGrows = (e : Entry) (h : Record) (i stream : ℕ) → taken (e ∷ h) i stream ≡ taken h i stream ++ taken_in i stream e

-- an Attempt adds its bytes; no other entry does
abbrev pub GivenGrows : Type 0
GivenGrows = (e : Entry) (h : Record) (i : ℕ) → given (e ∷ h) i ≡ given h i ++ given_in i e

-- a Confirm that was made adds its positions; no other entry does
abbrev pub ConfirmedGrows : Type 0
ConfirmedGrows = (e : Entry) (h : Record) (i : ℕ) → confirmed (e ∷ h) i ≡ confirmed h i ++ confirmed_in i e

-- a Read that tells its stream's end adds the stream; no other entry does
abbrev pub EndedGrows : Type 0
EndedGrows = (e : Entry) (h : Record) (i : ℕ) → ended_streams (e ∷ h) i ≡ ended_streams h i ++ ended_by i e

-- a number of an instance rises by so much with an entry behind a record
abbrev pub Rises : (Record → ℕ → ℕ) → (Record → ℕ → Entry → ℕ) → Type 0
Rises number more = (e : Entry) (h : Record) (i : ℕ) → number (e ∷ h) i ≡ number h i + more h i e

-- the bytes of a Read
abbrev pub bytes_in : Record → ℕ → Entry → ℕ
bytes_in h i (Read j stream took) = if j == i then length (bytes_of took) else 0
bytes_in h i other = 0

-- the lines that a Read completes, without the overlong ones
abbrev pub lines_in : Record → ℕ → Entry → ℕ
lines_in h i (Read j stream took) = if j == i then length (new_lines h i stream took) else 0
lines_in h i other = 0

-- the overlong lines that a Read completes
abbrev pub overlong_in : Record → ℕ → Entry → ℕ
overlong_in h i (Read j stream took) = if j == i then new_overlong h i stream took else 0
overlong_in h i other = 0

-- the undecodable lines that a Read completes
abbrev pub undecodable_in : Record → ℕ → Entry → ℕ
undecodable_in h i (Read j stream took) = if j == i then new_undecodable h i stream took else 0
undecodable_in h i other = 0

-- the events of a Born
abbrev pub events_in : Record → ℕ → Entry → ℕ
events_in h i (Born j b place copies events waits stream end) = if j == i then length events else 0
events_in h i other = 0

-- the births of the instance that an entry is: one or none
abbrev pub batches_in : Record → ℕ → Entry → ℕ
batches_in h i e = length (births_in i e)

-- the notices, with a status, of the instance's batches that an entry is: one or none
abbrev pub notices_in : BatchStatus → Record → ℕ → Entry → ℕ
notices_in status h i (Notice b s) = if same_end s status && is_batch_of h i b then 1 else 0
notices_in status h i other = 0

-- the parcels that an entry took: one or none
abbrev pub takes_in : Record → ℕ → Entry → ℕ
takes_in h i (Take j stage copies) = if j == i then 1 else 0
takes_in h i other = 0

-- the parcels that an entry put out
abbrev pub outputs_in : Record → ℕ → Entry → ℕ
outputs_in h i (Answer j outputs discarded kept) = if j == i then length outputs else 0
outputs_in h i other = 0

-- and those that it discarded
abbrev pub dropped_in : Record → ℕ → Entry → ℕ
dropped_in h i (Answer j outputs discarded kept) = if j == i then count_by (is_first h i) discarded else 0
dropped_in h i other = 0

-- the Attempts that an entry is: one or none
abbrev pub attempts_in : Record → ℕ → Entry → ℕ
attempts_in h i (Attempt j copies bytes reply) = if j == i then 1 else 0
attempts_in h i other = 0

-- the bytes that an entry sent
abbrev pub sent_in : Record → ℕ → Entry → ℕ
sent_in h i (Attempt j copies bytes reply) = if j == i then length bytes else 0
sent_in h i other = 0

-- a source's numbers rise with its Reads and Borns, and with the notices of its batches
abbrev pub SourceRises : Type 0
SourceRises =
    Rises bytes_taken bytes_in × Rises lines_read lines_in × Rises overlong_read overlong_in × Rises undecodable_read undecodable_in × Rises events_born events_in
    × Rises (λ h i. length (births h i)) batches_in × ((status : BatchStatus) → Rises (notices status) (notices_in status))

-- a transform's numbers rise with its Takes and Answers
abbrev pub TransformRises : Type 0
TransformRises = Rises takes takes_in × Rises sent_parcels outputs_in × Rises dropped_parcels dropped_in

-- a sink's numbers rise with its Takes and Attempts
abbrev pub SinkRises : Type 0
SinkRises = Rises takes takes_in × Rises attempts_made attempts_in × Rises bytes_sent sent_in

-- whether a parcel begins with a copy
abbrev pub begins_with : ℕ → List ℕ → Bool
begins_with c [] = false
begins_with c (d ∷ cs) = c == d

-- the parcels at some places that a Spent of a copy makes pass: their first copy is spent so now, and wasn't before
abbrev pub passing_now : (Outcome → Bool) → (Place → Bool) → Record → ℕ → Outcome → ℕ
passing_now test here h c outcome =
    parcels_that (λ copies. (test outcome && begins_with c copies) && not (first_spent test h copies)) here h

-- the parcels at some places that an entry makes pass
abbrev pub first_in : (Outcome → Bool) → (Place → Bool) → Record → Entry → ℕ
first_in test here h (Spent j c outcome) = passing_now test here h c outcome
first_in test here h other = 0

-- the parcels that an entry makes unread
abbrev pub unread_in : Record → ℕ → Entry → ℕ
unread_in h i e = first_in is_unread (is_output i) h e

-- the parcels that an entry makes dropped as newest
abbrev pub newest_in : Record → ℕ → Entry → ℕ
newest_in h i e = first_in is_newest (is_child_for i) h e

-- the parcels that a sink held whose first copy an entry spends with a status
abbrev pub spent_in : EventStatus → Record → ℕ → Entry → ℕ
spent_in status h i (Spent j c outcome) =
    parcels_that (λ copies. (same_status (status_of outcome) status && (c == first_copy copies)) && not (spent_as status h copies)) (is_held_by i) h
spent_in status h i other = 0

-- a number of an instance rises by so much with an entry of a legal record
abbrev pub RisesLegally : (Record → ℕ → ℕ) → (Record → ℕ → Entry → ℕ) → Type 0
RisesLegally number more = (e : Entry) (h : Record) (i : ℕ) → IsLegal (e ∷ h) → number (e ∷ h) i ≡ number h i + more h i e

-- what was unread, dropped as newest, or spent with a status rises with Spents alone
abbrev pub SpentRises : Type 0
SpentRises =
    RisesLegally unread_parcels unread_in × RisesLegally newest_parcels newest_in
    × ((status : EventStatus) → RisesLegally (parcels_spent status) (spent_in status))

-- whether an entry counts for nobody
abbrev pub counts_for_nobody : Entry → Bool
counts_for_nobody (Lease i worker now polls) = true
counts_for_nobody (Home i) = true
counts_for_nobody (Idle i failed) = true
counts_for_nobody (SourceLost i at failed) = true
counts_for_nobody (Tick i now) = true
counts_for_nobody (Closed i) = true
counts_for_nobody (Retired i) = true
counts_for_nobody (Abandon cause) = true
counts_for_nobody other = false

-- such an entry leaves each count of each instance
abbrev pub TallyStays : Type 0
TallyStays = (e : Entry) (h : Record) (i : ℕ) → counts_for_nobody e ≡ true → tally (e ∷ h) i ≡ tally h i
