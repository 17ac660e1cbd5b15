-- The counts of an instance.
use Rattle.std.specs.Prelude.{ℕ, ◌+◌, Bool, true, false, ◌&&◌, Option, Some, None, List, [], ◌∷◌, length, map, sum, count_by, if◌then◌else◌, ◌==◌}
use Rattle.std.specs.List.{list_any}
use Rattle.vx_ends.specs.declared.position.Position.{Position}
use Rattle.vx_status.specs.declared.outcome.Outcome.{Outcome}
use Rattle.vx_status.specs.declared.outcome.Outcome.TheVariants.{NewestDropped, NoConsumer}
use Rattle.vx_status.specs.declared.event_status.EventStatus.{EventStatus}
use Rattle.vx_status.specs.declared.event_status.EventStatus.TheVariants as event
use Rattle.vx_status.specs.declared.batch_status.BatchStatus.{BatchStatus}
use Rattle.vx_status.specs.declared.batch_status.BatchStatus.TheVariants as batch
use Rattle.vx_status.specs.Tables.{status_of}
use Rattle.vx_plan.specs.declared.component.Component.{Component}
use Rattle.vx_plan.specs.declared.class.Class.TheVariants.{Source, Transform, Sink}
use Rattle.vx_record.specs.declared.tally.Tally.{Tally}
use Rattle.vx_record.specs.declared.entry.Entry.TheVariants.{Read, Born, Take, Answer, Attempt, Spent, Notice}
use Rattle.vx_record.specs.declared.entry.Entry.{Entry}
use Rattle.vx_record.specs.Records.{Record, capped}
use Rattle.vx_record.specs.Copies.{all_of}
use Rattle.vx_record.specs.Tally.{nothing_counted}
use Rattle.vx_record.specs.Places.{Place, Put, all_puts}
use Rattle.vx_record.specs.Places.Place.{Outputs, Waiting, Held}
use Rattle.vx_record.specs.Installs.{component_or}
use Rattle.vx_record.specs.Reads.{bytes_taken, new_lines, new_overlong, new_undecodable}
use Rattle.vx_record.specs.Confirms.{Birth, births, confirmed, last_of_each}
use Rattle.vx_record.specs.Parcels.{first_copy}

-- the lines of all the instance's Reads, without the overlong ones
abbrev pub lines_read : Record → ℕ → ℕ
lines_read [] i = 0
lines_read (Read j stream took ∷ h) i = lines_read h i + (if j == i then length (new_lines h i stream took) else 0)
lines_read (e ∷ h) i = lines_read h i

-- how many overlong lines all its Reads have
abbrev pub overlong_read : Record → ℕ → ℕ
overlong_read [] i = 0
overlong_read (Read j stream took ∷ h) i = overlong_read h i + (if j == i then new_overlong h i stream took else 0)
overlong_read (e ∷ h) i = overlong_read h i

-- how many undecodable lines all its Reads have
abbrev pub undecodable_read : Record → ℕ → ℕ
undecodable_read [] i = 0
undecodable_read (Read j stream took ∷ h) i = undecodable_read h i + (if j == i then new_undecodable h i stream took else 0)
undecodable_read (e ∷ h) i = undecodable_read h i

-- the events of its births
abbrev pub events_born : Record → ℕ → ℕ
events_born [] i = 0
events_born (Born j b place copies events waits stream end ∷ h) i = events_born h i + (if j == i then length events else 0)
events_born (e ∷ h) i = events_born h i

-- the outcome of a copy, once it is spent
abbrev pub outcome_of : Record → ℕ → Option Outcome
outcome_of [] c = None
outcome_of (Spent i d outcome ∷ h) c = if d == c then Some outcome else outcome_of h c
outcome_of (e ∷ h) c = outcome_of h c

-- whether a copy had no target
abbrev pub is_unread : Outcome → Bool
is_unread NoConsumer = true
is_unread other = false

-- whether a copy was dropped as the newest
abbrev pub is_newest : Outcome → Bool
is_newest NewestDropped = true
is_newest other = false

-- whether a copy was spent by an outcome that passes
abbrev pub was_spent : (Outcome → Bool) → Record → ℕ → Bool
was_spent test h c = elim (outcome_of h c) [ None ↦ false | Some outcome ↦ test outcome ]

-- whether the instance's outputs are there
abbrev pub is_output : ℕ → Place → Bool
is_output i (Outputs j) = j == i
is_output i other = false

-- whether children for the instance wait there
abbrev pub is_child_for : ℕ → Place → Bool
is_child_for i (Waiting j t) = t == i
is_child_for i other = false

-- whether the instance holds what is there
abbrev pub is_held_by : ℕ → Place → Bool
is_held_by i (Held j) = j == i
is_held_by i other = false

-- 1 where something holds, else 0
abbrev pub one_if : Bool → ℕ
one_if true = 1
one_if false = 0

-- how many of some puts pass a test
abbrev pub count_puts : (Put → Bool) → List Put → ℕ
count_puts test [] = 0
count_puts test (put ∷ rest) = one_if (test put) + count_puts test rest

-- the number of the parcels that were ever put there and pass a test
abbrev pub parcels_that : (List ℕ → Bool) → (Place → Bool) → Record → ℕ
parcels_that test here h = count_puts (λ (put : Put). here put.place && test put.copies) (all_puts h)

-- whether a parcel's first copy was spent so; an empty one has none
abbrev pub first_spent : (Outcome → Bool) → Record → List ℕ → Bool
first_spent test h [] = false
first_spent test h (c ∷ cs) = was_spent test h c

-- whether two statuses of events are the same
abbrev pub same_status : EventStatus → EventStatus → Bool
same_status event.Dropped event.Dropped = true
same_status event.Delivered event.Delivered = true
same_status event.Errored event.Errored = true
same_status event.Rejected event.Rejected = true
same_status s t = false

-- whether a parcel was spent with a status, by its first copy
abbrev pub spent_as : EventStatus → Record → List ℕ → Bool
spent_as status h copies = was_spent (λ outcome. same_status (status_of outcome) status) h (first_copy copies)

-- the parcels that an instance put out and that had no target, each by its first copy
abbrev pub unread_parcels : Record → ℕ → ℕ
unread_parcels h i = parcels_that (first_spent is_unread h) (is_output i) h

-- the parcels for an instance that its full buffer dropped, each by its first copy
abbrev pub newest_parcels : Record → ℕ → ℕ
newest_parcels h i = parcels_that (first_spent is_newest h) (is_child_for i) h

-- the parcels that a sink held and that were spent with a status
abbrev pub parcels_spent : EventStatus → Record → ℕ → ℕ
parcels_spent status h i = parcels_that (spent_as status h) (is_held_by i) h

-- whether two statuses of batches are the same
abbrev pub same_end : BatchStatus → BatchStatus → Bool
same_end batch.Delivered batch.Delivered = true
same_end batch.Errored batch.Errored = true
same_end batch.Rejected batch.Rejected = true
same_end s t = false

-- whether the batch is one of the instance's
abbrev pub is_batch_of : Record → ℕ → ℕ → Bool
is_batch_of h i b = list_any (λ (birth : Birth). birth.batch == b) (births h i)

-- how many notices of the instance's batches have a status
abbrev pub notices : BatchStatus → Record → ℕ → ℕ
notices status [] i = 0
notices status (Notice b s ∷ h) i = notices status h i + (if same_end s status && is_batch_of h i b then 1 else 0)
notices status (e ∷ h) i = notices status h i

-- each stream's last confirmed end, all together
abbrev pub confirmed_ends : Record → ℕ → ℕ
confirmed_ends h i = sum (map (λ (p : Position). p.end) (last_of_each [] (confirmed h i)))

-- the parcels that it took
abbrev pub takes : Record → ℕ → ℕ
takes [] i = 0
takes (Take j stage copies ∷ h) i = takes h i + (if j == i then 1 else 0)
takes (e ∷ h) i = takes h i

-- the parcels that it put out, each once whatever its ports
abbrev pub sent_parcels : Record → ℕ → ℕ
sent_parcels [] i = 0
sent_parcels (Answer j outputs discarded kept ∷ h) i = sent_parcels h i + (if j == i then length outputs else 0)
sent_parcels (e ∷ h) i = sent_parcels h i

-- the copy that came first in the parcel that an entry took for it
abbrev pub firsts_in : ℕ → Entry → List ℕ
firsts_in i (Take j stage copies) = if j == i then first_copy copies ∷ [] else []
firsts_in i other = []

-- whether a copy came first in a parcel that it took
abbrev pub is_first : Record → ℕ → ℕ → Bool
is_first h i c = list_any (λ d. d == c) (all_of (firsts_in i) h)

-- the parcels that it discarded, each by the copy that came first in it
abbrev pub dropped_parcels : Record → ℕ → ℕ
dropped_parcels [] i = 0
dropped_parcels (Answer j outputs discarded kept ∷ h) i = dropped_parcels h i + (if j == i then count_by (is_first h i) discarded else 0)
dropped_parcels (e ∷ h) i = dropped_parcels h i

-- its Attempts
abbrev pub attempts_made : Record → ℕ → ℕ
attempts_made [] i = 0
attempts_made (Attempt j copies bytes reply ∷ h) i = attempts_made h i + (if j == i then 1 else 0)
attempts_made (e ∷ h) i = attempts_made h i

-- the bytes of its Attempts
abbrev pub bytes_sent : Record → ℕ → ℕ
bytes_sent [] i = 0
bytes_sent (Attempt j copies bytes reply ∷ h) i = bytes_sent h i + (if j == i then length bytes else 0)
bytes_sent (e ∷ h) i = bytes_sent h i

-- the counts of a source
abbrev pub source_tally : Record → ℕ → Tally
source_tally h i = record nothing_counted {
  read = capped (bytes_taken h i);
  lines = capped (lines_read h i);
  overlong = capped (overlong_read h i);
  undecodable = capped (undecodable_read h i);
  events = capped (events_born h i);
  unread = capped (unread_parcels h i);
  batches = capped (length (births h i));
  delivered = capped (notices batch.Delivered h i);
  errored = capped (notices batch.Errored h i);
  rejected = capped (notices batch.Rejected h i);
  confirmed = capped (confirmed_ends h i);
}

-- the counts of a transform
abbrev pub transform_tally : Record → ℕ → Tally
transform_tally h i = record nothing_counted {
  taken = capped (takes h i);
  sent = capped (sent_parcels h i);
  dropped = capped (dropped_parcels h i);
  unread = capped (unread_parcels h i);
}

-- the counts of a sink
abbrev pub sink_tally : Record → ℕ → Tally
sink_tally h i = record nothing_counted {
  taken = capped (takes h i);
  newest = capped (newest_parcels h i);
  attempts = capped (attempts_made h i);
  delivered = capped (parcels_spent event.Delivered h i);
  errored = capped (parcels_spent event.Errored h i);
  rejected = capped (parcels_spent event.Rejected h i);
  bytes = capped (bytes_sent h i);
}

-- the counts of an instance, by its class
abbrev pub tally : Record → ℕ → Tally
tally h i =
    component_or nothing_counted (λ (c : Component). elim c.class [ Source ↦ source_tally h i | Transform ↦ transform_tally h i | Sink ↦ sink_tally h i ]) h i
