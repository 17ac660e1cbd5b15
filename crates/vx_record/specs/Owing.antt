-- What an instance still owes to the record, and when it is done.
use Rattle.std.specs.Prelude.{ℕ, ◌+◌, Bool, true, false, not, ◌&&◌, ◌||◌, List, [], ◌∷◌, length, if◌then◌else◌, ◌==◌, nat_le, nat_lt}
use Rattle.std.specs.List.{list_any, list_all}
use Rattle.vx_value.specs.Texts.{is_empty}
use Rattle.vx_ends.specs.declared.trouble.Reply.{Reply}
use Rattle.vx_ends.specs.declared.trouble.Reply.TheVariants as reply
use Rattle.vx_record.specs.declared.entry.Entry.TheVariants.{Read, Take, Attempt, Answer}
use Rattle.vx_record.specs.Records.{Record}
use Rattle.vx_record.specs.Copies.{times_spent}
use Rattle.vx_record.specs.Installs.{source_at, transform_at}
use Rattle.vx_record.specs.Lists.{held, buffered}
use Rattle.vx_record.specs.Reads.{events_of}
use Rattle.vx_record.specs.Confirms.{Birth, births, is_noticed, is_confirm_due}
use Rattle.vx_record.specs.Routing.{is_dry, is_sent, is_ending}
use Rattle.vx_record.specs.SinkBatches.{failures_with, attempts_allowed}
use Rattle.vx_record.specs.Parcels.{first_copy}

-- the number of the instance's Reads that gave an event
abbrev pub fruitful : Record → ℕ → ℕ
fruitful [] i = 0
fruitful (Read j stream took ∷ h) i = fruitful h i + (if (j == i) && not (is_empty (events_of h i stream took)) then 1 else 0)
fruitful (e ∷ h) i = fruitful h i

-- a Read of the instance that gave an event has no Born
abbrev pub owes_birth : Record → ℕ → Bool
owes_birth h i = nat_lt (length (births h i)) (fruitful h i)

-- whether an Attempt settles what becomes of its copies: it was answered, or no other may follow
abbrev pub is_decided : Reply → ℕ → ℕ → Bool
is_decided reply.Ok failures allowed = true
is_decided reply.Refused failures allowed = true
is_decided reply.Failed failures allowed = nat_le allowed failures

-- whether one of some copies is unspent
abbrev pub unspent_of : Record → List ℕ → Bool
unspent_of h copies = list_any (λ c. times_spent h c == 0) copies

-- the copies of each Attempt of the instance that settled what becomes of them, the latest first
abbrev pub decided : Record → ℕ → List (List ℕ)
decided [] i = []
decided (Attempt j copies bytes reply ∷ h) i =
    let before = decided h i in
    if (j == i) && is_decided reply (failures_with h i (first_copy copies) + 1) (attempts_allowed h i) then copies ∷ before else before
decided (e ∷ h) i = decided h i

-- one of the copies that were so settled in a record is unspent in the whole of it
abbrev pub owes_spends_in : Record → Record → ℕ → Bool
owes_spends_in h whole i = list_any (unspent_of whole) (decided h i)

-- the copies that the instance's last Answer discarded
abbrev pub last_discarded : Record → ℕ → List ℕ
last_discarded [] i = []
last_discarded (Answer j outputs discarded kept ∷ h) i = if j == i then discarded else last_discarded h i
last_discarded (e ∷ h) i = last_discarded h i

-- a copy that its last Answer discarded is unspent
abbrev pub owes_discards : Record → ℕ → Bool
owes_discards h i = unspent_of h (last_discarded h i)

-- whether the instance took a parcel after its last Answer
abbrev pub took_since : Record → ℕ → Bool
took_since [] i = false
took_since (Take j stage copies ∷ h) i = (j == i) || took_since h i
took_since (Answer j outputs discarded kept ∷ h) i = not (j == i) && took_since h i
took_since (e ∷ h) i = took_since h i

-- a transform took a parcel that it has not answered
abbrev pub owes_answer : Record → ℕ → Bool
owes_answer h i = transform_at h i && took_since h i

-- whether the instance must still make entries before it may be leased
abbrev pub owes : Record → ℕ → Bool
owes h i = owes_birth h i || owes_spends_in h h i || owes_discards h i || owes_answer h i

-- whether each batch of the instance has its notice
abbrev pub all_noticed : Record → ℕ → Bool
all_noticed h i = list_all (λ (birth : Birth). is_noticed h birth.batch) (births h i)

-- a source is done where each batch that it created is noticed, and no confirm is due
abbrev pub is_source_done : Record → ℕ → Bool
is_source_done h i = is_dry h i && not (owes h i) && is_sent h i && all_noticed h i && not (is_confirm_due h i)

-- a transform or sink is done where nothing more comes and nothing is at it
abbrev pub is_worker_done : Record → ℕ → Bool
is_worker_done h i = is_ending h i && is_empty (buffered h i) && is_sent h i && is_empty (held h i)

-- whether the instance has nothing more to do
abbrev pub is_done : Record → ℕ → Bool
is_done h i = if source_at h i then is_source_done h i else is_worker_done h i
