-- The counts of an instance, by its class, and what an entry adds to them.
use Rattle.std.proofs.Common.{◌≡◌, ℕ, zero, suc, ◌+◌, [], ◌∷◌, ◌++◌, length, sum, map, refl, ap, ◌∙◌, arith}
use Rattle.std.proofs.lemmas.List.{append-nil}
use Rattle.vx_ends.specs.declared.position.Position.{Position}
use Rattle.vx_status.specs.declared.event_status.EventStatus.TheVariants as event
use Rattle.vx_status.specs.declared.batch_status.BatchStatus.TheVariants as batch
use Rattle.vx_plan.specs.declared.class.Class.{Class}
use Rattle.vx_plan.specs.declared.class.Class.TheVariants.{Source, Transform, Sink}
use Rattle.vx_record.specs.declared.tally.Tally.{Tally}
use Rattle.vx_record.specs.declared.entry.Entry.{Entry}
use Rattle.vx_record.specs.Records.{Record, capped}
use Rattle.vx_record.specs.Legal.{IsLegal}
use Rattle.vx_record.specs.Reads.{bytes_taken}
use Rattle.vx_record.specs.Confirms.{births, confirmed, confirmed_in, last_of_each}
use Rattle.vx_record.specs.Tally.{nothing_counted}
use Rattle.vx_record.specs.Tallies.{lines_read, overlong_read, undecodable_read, events_born, unread_parcels, newest_parcels, parcels_spent, notices, confirmed_ends, takes, sent_parcels, dropped_parcels, attempts_made, bytes_sent, source_tally, transform_tally, sink_tally}
use Rattle.vx_record.specs.Growth.{bytes_in, lines_in, overlong_in, undecodable_in, events_in, batches_in, notices_in, takes_in, outputs_in, dropped_in, attempts_in, sent_in, unread_in, newest_in, spent_in}
use Rattle.vx_record.proofs.Grows.{source_rises, transform_rises, sink_rises}
use Rattle.vx_record.proofs.SpentParcels.{spent_rises}
use Rattle.vx_counts.proofs.Classes.{by_class}

-- a count to which so much is added; nothing leaves it as it is
abbrev pub grown : ℕ → ℕ → ℕ
grown n zero = n
grown n (suc k) = capped (n + suc k)

-- so of all counts, but for what is confirmed
abbrev pub raised : Tally → Tally → Tally
raised t m = record t {
  read = grown t.read m.read;
  lines = grown t.lines m.lines;
  overlong = grown t.overlong m.overlong;
  undecodable = grown t.undecodable m.undecodable;
  events = grown t.events m.events;
  unread = grown t.unread m.unread;
  batches = grown t.batches m.batches;
  delivered = grown t.delivered m.delivered;
  errored = grown t.errored m.errored;
  rejected = grown t.rejected m.rejected;
  taken = grown t.taken m.taken;
  sent = grown t.sent m.sent;
  dropped = grown t.dropped m.dropped;
  newest = grown t.newest m.newest;
  attempts = grown t.attempts m.attempts;
  bytes = grown t.bytes m.bytes;
}

-- what an entry adds to the counts of an instance, by its class
abbrev pub source_more : Record → ℕ → Entry → Tally
source_more h i e = record nothing_counted {
  read = bytes_in h i e;
  lines = lines_in h i e;
  overlong = overlong_in h i e;
  undecodable = undecodable_in h i e;
  events = events_in h i e;
  unread = unread_in h i e;
  batches = batches_in h i e;
  delivered = notices_in batch.Delivered h i e;
  errored = notices_in batch.Errored h i e;
  rejected = notices_in batch.Rejected h i e;
}

abbrev pub transform_more : Record → ℕ → Entry → Tally
transform_more h i e = record nothing_counted { unread = unread_in h i e; taken = takes_in h i e; sent = outputs_in h i e; dropped = dropped_in h i e }

abbrev pub sink_more : Record → ℕ → Entry → Tally
sink_more h i e = record nothing_counted {
  delivered = spent_in event.Delivered h i e;
  errored = spent_in event.Errored h i e;
  rejected = spent_in event.Rejected h i e;
  taken = takes_in h i e;
  newest = newest_in h i e;
  attempts = attempts_in h i e;
  bytes = sent_in h i e;
}

abbrev pub more_by : Record → ℕ → Entry → Class → Tally
more_by h i e k = elim k as (λ _. Tally) [ Source ↦ source_more h i e | Transform ↦ transform_more h i e | Sink ↦ sink_more h i e ]

-- a count that rises
rise : (x y k : ℕ) → y ≡ x + k → capped y ≡ grown (capped x) k
rise x y zero is = omega arith
rise x y (suc k) is = omega arith

-- what an entry makes of the counts; a Confirm alone changes what is confirmed
pub grows : (k : Class) (h : Record) (i : ℕ) (e : Entry) → IsLegal (e ∷ h) →
    by_class (e ∷ h) i k ≡ record (raised (by_class h i k) (more_by h i e k)) { confirmed = (by_class (e ∷ h) i k).confirmed }
grows Source h i e legal = λ t. record (source_tally (e ∷ h) i) {
  read = rise (bytes_taken h i) (bytes_taken (e ∷ h) i) (bytes_in h i e) (source_rises.0 e h i) t;
  lines = rise (lines_read h i) (lines_read (e ∷ h) i) (lines_in h i e) (source_rises.1 e h i) t;
  overlong = rise (overlong_read h i) (overlong_read (e ∷ h) i) (overlong_in h i e) (source_rises.2 e h i) t;
  undecodable = rise (undecodable_read h i) (undecodable_read (e ∷ h) i) (undecodable_in h i e) (source_rises.3 e h i) t;
  events = rise (events_born h i) (events_born (e ∷ h) i) (events_in h i e) (source_rises.4 e h i) t;
  unread = rise (unread_parcels h i) (unread_parcels (e ∷ h) i) (unread_in h i e) (spent_rises.0 e h i legal) t;
  batches = rise (length (births h i)) (length (births (e ∷ h) i)) (batches_in h i e) (source_rises.5 e h i) t;
  delivered = rise (notices batch.Delivered h i) (notices batch.Delivered (e ∷ h) i) (notices_in batch.Delivered h i e) (source_rises.6 batch.Delivered e h i) t;
  errored = rise (notices batch.Errored h i) (notices batch.Errored (e ∷ h) i) (notices_in batch.Errored h i e) (source_rises.6 batch.Errored e h i) t;
  rejected = rise (notices batch.Rejected h i) (notices batch.Rejected (e ∷ h) i) (notices_in batch.Rejected h i e) (source_rises.6 batch.Rejected e h i) t;
}
grows Transform h i e legal = λ t. record (transform_tally (e ∷ h) i) {
  unread = rise (unread_parcels h i) (unread_parcels (e ∷ h) i) (unread_in h i e) (spent_rises.0 e h i legal) t;
  taken = rise (takes h i) (takes (e ∷ h) i) (takes_in h i e) (transform_rises.0 e h i) t;
  sent = rise (sent_parcels h i) (sent_parcels (e ∷ h) i) (outputs_in h i e) (transform_rises.1 e h i) t;
  dropped = rise (dropped_parcels h i) (dropped_parcels (e ∷ h) i) (dropped_in h i e) (transform_rises.2 e h i) t;
}
grows Sink h i e legal = λ t. record (sink_tally (e ∷ h) i) {
  delivered = rise (parcels_spent event.Delivered h i) (parcels_spent event.Delivered (e ∷ h) i) (spent_in event.Delivered h i e) (spent_rises.2 event.Delivered e h i legal) t;
  errored = rise (parcels_spent event.Errored h i) (parcels_spent event.Errored (e ∷ h) i) (spent_in event.Errored h i e) (spent_rises.2 event.Errored e h i legal) t;
  rejected = rise (parcels_spent event.Rejected h i) (parcels_spent event.Rejected (e ∷ h) i) (spent_in event.Rejected h i e) (spent_rises.2 event.Rejected e h i legal) t;
  taken = rise (takes h i) (takes (e ∷ h) i) (takes_in h i e) (sink_rises.0 e h i) t;
  newest = rise (newest_parcels h i) (newest_parcels (e ∷ h) i) (newest_in h i e) (spent_rises.1 e h i legal) t;
  attempts = rise (attempts_made h i) (attempts_made (e ∷ h) i) (attempts_in h i e) (sink_rises.1 e h i) t;
  bytes = rise (bytes_sent h i) (bytes_sent (e ∷ h) i) (sent_in h i e) (sink_rises.2 e h i) t;
}

ends_same : (e : Entry) (h : Record) (i : ℕ) → confirmed_in i e ≡ [] → confirmed_ends (e ∷ h) i ≡ confirmed_ends h i
ends_same e h i none =
    ap (λ ps. sum (map (λ (p : Position). p.end) (last_of_each [] (confirmed h i ++ ps)))) none
    ∙ ap (λ ps. sum (map (λ (p : Position). p.end) (last_of_each [] ps))) (append-nil (confirmed h i))

confirmed_same : (k : Class) (e : Entry) (h : Record) (i : ℕ) → confirmed_in i e ≡ [] → (by_class (e ∷ h) i k).confirmed ≡ (by_class h i k).confirmed
confirmed_same Source e h i none = ap capped (ends_same e h i none)
confirmed_same Transform e h i none = refl
confirmed_same Sink e h i none = refl

-- where it confirms nothing
pub grows_aside : (k : Class) (h : Record) (i : ℕ) (e : Entry) → IsLegal (e ∷ h) → confirmed_in i e ≡ [] → by_class (e ∷ h) i k ≡ raised (by_class h i k) (more_by h i e k)
grows_aside k h i e legal none =
    grows k h i e legal ∙ ap (λ (n : ℕ). record (raised (by_class h i k) (more_by h i e k)) { confirmed = n }) (confirmed_same k e h i none)
