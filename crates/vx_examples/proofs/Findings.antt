-- What a record says of each of its entries: the findings that the entry's row asks for, and those that are wanted. What no
-- computation finds has to be given beside.
use Rattle.std.specs.Prelude.{ℕ, ◌*◌, ◌≡◌, ◌+◌, ◌^◌, Bool, true, false, not, ◌&&◌, ◌||◌, Option, Some, None, is_some, List, [], ◌∷◌, ◌++◌, length, map, nat_le, nat_lt}
use Rattle.std.specs.List.{list_any, list_all}
use Rattle.vx_value.specs.Texts.{ByteString, is_empty}
use Rattle.vx_value.specs.declared.event.Event.{Event}
use Rattle.vx_ends.specs.declared.position.Position.{Position}
use Rattle.vx_ends.specs.declared.trouble.Reply.{Reply}
use Rattle.vx_ends.specs.declared.trouble.Reply.TheVariants as reply
use Rattle.vx_status.specs.declared.batch_status.BatchStatus.{BatchStatus}
use Rattle.vx_status.specs.declared.outcome.Outcome.{Outcome}
use Rattle.vx_status.specs.declared.outcome.Outcome.TheVariants.{Delivered, Filtered, NewestDropped, NoConsumer, Attempts, Abandoned, Refusal}
use Rattle.vx_plan.specs.Accepted.{IsPlan}
use Rattle.vx_record.specs.declared.child.Child.{Child}
use Rattle.vx_record.specs.declared.instance.Instance.{Instance}
use Rattle.vx_record.specs.declared.entry.Entry.{Entry}
use Rattle.vx_record.specs.declared.entry.Entry.TheVariants.{Install, Lease, Home, Read, Idle, SourceLost, Born, Split, Push, Take, Tick, Answer, Attempt, Spent, Notice, Confirm, Closed, Retired, Abandon}
use Rattle.vx_record.specs.Records.{Record, capped}
use Rattle.vx_record.specs.Copies.{count, joined, counting, children_of, next_copy, times_split, times_spent}
use Rattle.vx_record.specs.Batches.{is_notice_due, awaits_notice}
use Rattle.vx_record.specs.Places.{owner, put_out}
use Rattle.vx_record.specs.Lists.{without, outputs, waiting, all_waiting, contents, held, buffered, places, is_bare}
use Rattle.vx_record.specs.Turns.{is_out, at_lease, since_lease, lease_now, worker_now, is_turn_of, is_take_of, is_attempt_of, is_confirm_of}
use Rattle.vx_record.specs.Installs.{component_of, source_at, transform_at, sink_at, device_at, is_closed, is_retired}
use Rattle.vx_record.specs.Reads.{bytes_taken}
use Rattle.vx_record.specs.Generating.{generator_of, IsGenerated}
use Rattle.vx_record.specs.Owing.{owes, owes_discards, is_done, last_discarded}
use Rattle.vx_record.specs.Ready.{can_read, is_ready, IsTickReady}
use Rattle.vx_record.specs.Starting.{first_instances}
use Rattle.vx_record.specs.Sourcing.{failed_starts, Yield, yield, must_wait}
use Rattle.vx_record.specs.Confirms.{due, is_confirm_due}
use Rattle.vx_record.specs.Parcels.{parcel_event, parcel_ports, port_list}
use Rattle.vx_record.specs.Routing.{routes, is_ending}
use Rattle.vx_record.specs.Stages.{first_room, first_filled}
use Rattle.vx_record.specs.Inputs.{unanswered, ticks_wait}
use Rattle.vx_record.specs.SinkBatches.{is_batch_closed, is_full_batch, retry_from, failures_with, attempts_allowed}
use Rattle.vx_record.specs.Encoding.{encoded, is_prefix}
use Rattle.vx_record.specs.Spending.{last_attempted, last_reply, oldest, WasNewest}
use Rattle.vx_record.specs.Statuses.{batch_status}
use Rattle.vx_record.specs.Transforms.{IsTickDue}
use Rattle.vx_record.specs.Abandoning.{abandoned, is_left}
use Rattle.vx_record.specs.Ending.{HasReason}
use Rattle.vx_examples.proofs.Answered.{Answered}

-- one thing that is found
pub data Finding : Type 0 where
  says : Bool → Finding
  number : ℕ → Finding
  numbers : List ℕ → Finding
  perhaps : Option ℕ → Finding
  parcels : List (List ℕ) → Finding
  parcel : Option (List ℕ) → Finding
  instances : List Instance → Finding
  yields : Option Yield → Finding
  event : Event → Finding
  children : List Child → Finding
  answers : Option Reply → Finding
  status : BatchStatus → Finding
  positions : List Position → Finding

-- whether a record has no entry
abbrev pub is_new : Record → Bool
is_new [] = true
is_new (e ∷ h) = false

-- the first of some parcels, if there is one
abbrev pub first_of : List (List ℕ) → Option (List ℕ)
first_of [] = None
first_of (copies ∷ younger) = Some copies

-- whether a reply is the one that all was taken
abbrev pub is_ok : Reply → Bool
is_ok reply.Ok = true
is_ok reply.Failed = false
is_ok reply.Refused = false

-- bytes that matter where an attempt is answered so
abbrev pub if_ok : Reply → ByteString → ByteString
if_ok reply.Ok bytes = bytes
if_ok reply.Failed bytes = []
if_ok reply.Refused bytes = []

-- what a source's turn asks for
abbrev pub turn_found : Record → ℕ → List Finding → List Finding
turn_found h i more =
    says (source_at h i) ∷ says (is_out h i) ∷ says (can_read (at_lease h i) i (lease_now h i))
    ∷ says (list_any (is_turn_of i) (since_lease h i)) ∷ more

abbrev pub turn_wanted : List Finding → List Finding
turn_wanted more = says true ∷ says true ∷ says true ∷ says false ∷ more

-- what an outcome's cause asks for
abbrev pub cause_found : Record → ℕ → ℕ → Outcome → List Finding
cause_found h i c Delivered = says (nat_lt 0 (count c (last_attempted h i))) ∷ answers (last_reply h i) ∷ []
cause_found h i c Refusal = says (nat_lt 0 (count c (last_attempted h i))) ∷ answers (last_reply h i) ∷ []
cause_found h i c Attempts = says (nat_le (attempts_allowed h i) (failures_with h i c)) ∷ []
cause_found h i c Filtered = says (nat_lt 0 (count c (last_discarded h i))) ∷ []
cause_found h i c NewestDropped = []
cause_found h i c NoConsumer =
    says (nat_lt 0 (count c (oldest (outputs h i)))) ∷ parcels (all_waiting h i)
    ∷ numbers (routes h i (port_list (parcel_ports h (oldest (outputs h i))))) ∷ []
cause_found h i c Abandoned = says (abandoned h) ∷ says (is_out h i) ∷ []

abbrev pub cause_wanted : Outcome → List Finding
cause_wanted Delivered = says true ∷ answers (Some reply.Ok) ∷ []
cause_wanted Refusal = says true ∷ answers (Some reply.Refused) ∷ []
cause_wanted Attempts = says true ∷ []
cause_wanted Filtered = says true ∷ []
cause_wanted NewestDropped = []
cause_wanted NoConsumer = says true ∷ parcels [] ∷ numbers [] ∷ []
cause_wanted Abandoned = says true ∷ says false ∷ []

-- what an entry's row asks for
abbrev pub found : Record → Entry → List Finding
found h (Install version plan once given now) = says (is_new h) ∷ number version ∷ instances given ∷ []
found h (Lease i worker now polls) =
    says (is_out h i) ∷ says (is_retired h i) ∷ says (owes h i) ∷ says (nat_le (worker_now h worker) now) ∷ number polls ∷ []
found h (Home i) = says (is_out h i) ∷ []
found h (Read i stream took) = turn_found h i []
found h (Idle i failed) = turn_found h i (says (device_at h i) ∷ says (not failed || nat_lt (failed_starts h i) 4) ∷ [])
found h (SourceLost i at failed) =
    turn_found h i (says (device_at h i) ∷ number (capped (bytes_taken h i)) ∷ says (not failed || nat_le 4 (failed_starts h i)) ∷ [])
found h (Born i batch place copies events waits stream end) =
    yields (yield h i) ∷ says (nat_lt 0 (length copies)) ∷ number (length copies) ∷ numbers (counting (next_copy h) (length copies))
    ∷ number (next_copy h) ∷ says (must_wait h i) ∷ says (nat_le (next_copy h + length copies) (2 ^ 63)) ∷ []
found h (Split i ports copies e made) =
    says (is_out h i) ∷ parcels (all_waiting h i) ∷ parcel (first_of (outputs h i)) ∷ number (parcel_ports h copies)
    ∷ event (parcel_event h copies) ∷ says (nat_lt 0 (length made))
    ∷ children (children_of (next_copy h) (length copies) (routes h i (port_list ports)))
    ∷ says (nat_le (next_copy h + length made * length copies) (2 ^ 63)) ∷ []
found h (Push i t s copies) = says (is_out h i) ∷ parcel (first_of (waiting h i t)) ∷ perhaps (first_room h t) ∷ []
found h (Take i s copies) =
    says (is_out h i) ∷ says (list_all (is_take_of i) (since_lease h i)) ∷ says (nat_lt (length (since_lease h i)) 64)
    ∷ perhaps (first_filled h i) ∷ parcel (first_of (contents h i s)) ∷ says (sink_at h i && is_batch_closed h i (lease_now h i))
    ∷ says (sink_at h i && is_full_batch h i) ∷ says (transform_at h i && ticks_wait h i) ∷ []
found h (Tick i now) = says (is_out h i) ∷ number (lease_now h i) ∷ says (ticks_wait h i) ∷ []
found h (Answer i put discarded kept) =
    says (is_out h i) ∷ says (owes_discards h i) ∷ numbers (without (put_out put ++ discarded) (joined (held h i)))
    ∷ says (not (is_empty (unanswered h i)) || (is_ending h i && (is_empty (buffered h i) && is_empty kept))) ∷ []
found h (Attempt i copies bytes answer) =
    says (sink_at h i) ∷ says (is_out h i) ∷ says (list_any (is_attempt_of i) (since_lease h i)) ∷ numbers (joined (held h i))
    ∷ says (is_batch_closed h i (lease_now h i)) ∷ says (nat_le (retry_from h i) (lease_now h i))
    ∷ says (is_prefix bytes (encoded h i (held h i))) ∷ numbers (if_ok answer (encoded h i (held h i)))
    ∷ says (device_at h i || is_ok answer) ∷ []
found h (Spent i c outcome) =
    says (nat_lt c (next_copy h)) ∷ number (times_split h c) ∷ number (times_spent h c)
    ∷ says (nat_lt 0 (count i (map owner (places h c)))) ∷ cause_found h i c outcome
found h (Notice b said) = says (awaits_notice h b) ∷ status (batch_status h b) ∷ []
found h (Confirm i given made) =
    says (source_at h i) ∷ says (device_at h i) ∷ says (is_out h i) ∷ says (list_any (is_confirm_of i) (since_lease h i))
    ∷ says (is_confirm_due (at_lease h i) i) ∷ positions (due (at_lease h i) i) ∷ []
found h (Closed i) =
    says (device_at h i) ∷ says (is_closed h i) ∷ says ((is_out h i && is_done (at_lease h i) i) || abandoned h) ∷ []
found h (Retired i) =
    says (is_some (component_of h i)) ∷ says (is_out h i) ∷ says (is_retired h i) ∷ says (not (device_at h i) || is_closed h i)
    ∷ says (is_done h i || (abandoned h && is_bare h i)) ∷ []
found h (Abandon cause) = says (abandoned h) ∷ []

-- and what has to be found
abbrev pub wanted : Entry → List Finding
wanted (Install version plan once given now) = says true ∷ number 0 ∷ instances (first_instances 0 plan.components) ∷ []
wanted (Lease i worker now polls) = says false ∷ says false ∷ says false ∷ says true ∷ number 0 ∷ []
wanted (Home i) = says true ∷ []
wanted (Read i stream took) = turn_wanted []
wanted (Idle i failed) = turn_wanted (says true ∷ says true ∷ [])
wanted (SourceLost i at failed) = turn_wanted (says true ∷ number at ∷ says true ∷ [])
wanted (Born i batch place copies events waits stream end) =
    yields (Some (record { events = events; stream = stream; end = end })) ∷ says true ∷ number (length events) ∷ numbers copies
    ∷ number batch ∷ says waits ∷ says true ∷ []
wanted (Split i ports copies e made) =
    says false ∷ parcels [] ∷ parcel (Some copies) ∷ number ports ∷ event e ∷ says true ∷ children made ∷ says true ∷ []
wanted (Push i t s copies) = says false ∷ parcel (Some copies) ∷ perhaps (Some s) ∷ []
wanted (Take i s copies) =
    says true ∷ says true ∷ says true ∷ perhaps (Some s) ∷ parcel (Some copies) ∷ says false ∷ says false ∷ says false ∷ []
wanted (Tick i now) = says true ∷ number now ∷ says false ∷ []
wanted (Answer i put discarded kept) = says true ∷ says false ∷ numbers kept ∷ says true ∷ []
wanted (Attempt i copies bytes answer) =
    says true ∷ says true ∷ says false ∷ numbers copies ∷ says true ∷ says true ∷ says true ∷ numbers (if_ok answer bytes)
    ∷ says true ∷ []
wanted (Spent i c outcome) = says true ∷ number 0 ∷ number 0 ∷ says true ∷ cause_wanted outcome
wanted (Notice b said) = says true ∷ status said ∷ []
wanted (Confirm i given made) = says true ∷ says true ∷ says true ∷ says false ∷ says true ∷ positions given ∷ []
wanted (Closed i) = says true ∷ says false ∷ says true ∷ []
wanted (Retired i) = says true ∷ says false ∷ says false ∷ says true ∷ says true ∷ []
wanted (Abandon cause) = says false ∷ []

-- whether an entry stands where a notice is due
abbrev pub is_out_of_turn : Record → Entry → Bool
is_out_of_turn h (Notice b said) = false
is_out_of_turn h other = is_notice_due h

-- what is found of all entries, and what has to be
abbrev pub all_found : Record → List (List Finding)
all_found [] = []
all_found (e ∷ h) = (says (is_out_of_turn h e) ∷ says (not (abandoned h) || is_left h e) ∷ found h e) ∷ all_found h

abbrev pub all_wanted : Record → List (List Finding)
all_wanted [] = []
all_wanted (e ∷ h) = (says false ∷ says true ∷ wanted e) ∷ all_wanted h

-- whether something must be given beside for an entry
abbrev pub asks : Record → Entry → Bool
asks h (Install version plan once given now) = true
asks h (Lease i worker now polls) = not (is_ready h i now)
asks h (Read i stream took) = is_some (generator_of h i)
asks h (Tick i now) = true
asks h (Answer i put discarded kept) = true
asks h (Spent i c NewestDropped) = true
asks h (Abandon cause) = true
asks h other = false

-- what that is
abbrev pub Beside : Record → Entry → Type 0
Beside h (Install version plan once given now) = IsPlan plan
Beside h (Lease i worker now polls) = is_ready h i now ≡ false → IsTickReady h i now
Beside h (Read i stream took) = IsGenerated h i stream took
Beside h (Tick i now) = IsTickDue h i now
Beside h (Answer i put discarded kept) = Answered h i put discarded kept
Beside h (Spent i c NewestDropped) = (t : ℕ) × WasNewest h i c t
Beside h (Abandon cause) = HasReason h cause
Beside h other = Unit {0}

-- what is given where it is asked for, and the rest
abbrev pub given_with : Bool → Type 0 → Type 0 → Type 0
given_with false asked rest = rest
given_with true asked rest = asked × rest

-- all that must be given beside for a record, for its newest entry first
abbrev pub AllBeside : Record → Type 0
AllBeside [] = Unit {0}
AllBeside (e ∷ h) = given_with (asks h e) (Beside h e) (AllBeside h)
