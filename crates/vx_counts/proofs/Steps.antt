-- Each call adds what its entry adds.
use Rattle.std.proofs.Common.{◌≡◌, ℕ, zero, suc, ◌+◌, Bool, true, false, ◌&&◌, Option, Some, None, List, [], ◌∷◌, length, sum, map, sym, refl, ap, ◌∙◌, arith, inl, inr}
use Rattle.std.specs.Prelude.{if◌then◌else◌, ◌==◌, count_by}
use Rattle.std.proofs.lemmas.Bool.Decides.{nat_tests}
use Rattle.vx_ends.specs.declared.position.Position.{Position}
use Rattle.vx_ends.specs.declared.trouble.Reply.{Reply}
use Rattle.vx_value.specs.Texts.{ByteString}
use Rattle.vx_value.specs.declared.event.Event.{Event}
use Rattle.vx_plan.specs.declared.class.Class.{Class}
use Rattle.vx_plan.specs.declared.class.Class.TheVariants.{Source, Transform, Sink}
use Rattle.vx_status.specs.declared.outcome.Outcome.{Outcome}
use Rattle.vx_status.specs.declared.outcome.Outcome.TheVariants.{NewestDropped, NoConsumer}
use Rattle.vx_status.specs.declared.event_status.EventStatus.{EventStatus}
use Rattle.vx_status.specs.declared.event_status.EventStatus.TheVariants as event
use Rattle.vx_status.specs.declared.batch_status.BatchStatus.{BatchStatus}
use Rattle.vx_status.specs.declared.batch_status.BatchStatus.TheVariants as batch
use Rattle.vx_status.specs.Tables.{status_of}
use Rattle.vx_record.specs.declared.taken.Taken.{Taken}
use Rattle.vx_record.specs.declared.tally.Tally.{Tally}
use Rattle.vx_record.specs.declared.entry.Entry.{Entry}
use Rattle.vx_record.specs.declared.entry.Entry.TheVariants.{Read, Born, Take, Answer, Attempt, Spent, Notice, Confirm}
use Rattle.vx_record.specs.Records.{Record, capped}
use Rattle.vx_record.specs.Copies.{times_spent}
use Rattle.vx_record.specs.Moving.{IsConserved}
use Rattle.vx_record.specs.Parcels.{first_copy}
use Rattle.vx_record.specs.Legal.{IsLegal}
use Rattle.vx_record.specs.Growth.{unread_in, newest_in, spent_in}
use Rattle.vx_record.specs.declared.output.Output.{Output}
use Rattle.vx_record.specs.Reads.{bytes_of, bytes_taken, new_lines, new_overlong, new_undecodable}
use Rattle.vx_record.specs.Confirms.{Birth, confirmed_in}
use Rattle.vx_record.specs.Tally.{nothing_counted}
use Rattle.vx_record.specs.Tallies.{is_newest, is_batch_of, same_end, same_status, lines_read, overlong_read, undecodable_read, events_born, sent_parcels, dropped_parcels, is_first, one_if, bytes_sent}
use Rattle.vx_sourcecore.specs.declared.new_lines.NewLines.{NewLines}
use Rattle.vx_counts.specs.Spends.{BeginsUnread, BeginsNewest}
use Rattle.vx_counts.specs.Classes.{class_at, IsGiver}
use Rattle.vx_sourcecore.specs.NewLines.{AreNew}
use Rattle.vx_counts.specs.Meets.{Meets}
use Rattle.vx_counts.proofs.Once.{itself}
use Rattle.vx_counts.proofs.Passing.{own_first, unread_by, newest_by, newest_none, held_by, held_none}
use Rattle.vx_counts.proofs.Classes.{by_class, source_is, transform_is, sink_is, taker_is, tally_is}
use Rattle.vx_counts.proofs.Numbering.{creator_is, owner_is}
use Rattle.vx_record.proofs.OnePlace.{conserved}
use Rattle.vx_record.proofs.Answerers.{answerer}
use Rattle.vx_counts.proofs.DueEnds.{confirms_all}
use Rattle.vx_counts.proofs.Fields.{grown, raised, sink_more, more_by, grows, grows_aside}

-- A COUNT
no_more : (n k : ℕ) → k ≡ 0 → n ≡ grown n k
no_more n k none = ap (grown n) (sym none)

one_more : (r n k : ℕ) → r ≡ capped (n + 1) → k ≡ 1 → r ≡ grown n k
one_more r n k is one = is ∙ ap (grown n) (sym one)

if_self : (i x : ℕ) → (if i == i then x else 0) ≡ x
if_self i x = grind (arith, nat_tests)

one_self : (r n i : ℕ) → r ≡ capped (n + 1) → r ≡ grown n (if i == i then 1 else 0)
one_self r n i is = one_more r n (if i == i then 1 else 0) is (if_self i 1)

-- what is added, and what stands there, stand still at the greatest number
more_self : (r n m x i y : ℕ) → n ≡ capped y → r ≡ capped (n + m) → m ≡ capped x → r ≡ grown n (if i == i then x else 0)
more_self r n m x i y before is added = go x added ∙ ap (grown n) (sym (if_self i x))
  where
    go : (x : ℕ) → m ≡ capped x → r ≡ grown n x
    go zero added = omega arith
    go (suc k) added = omega arith

-- A CALL
step : (k : Class) (h : Record) (i : ℕ) (e : Entry) (old new : Tally) → IsLegal (e ∷ h) → class_at h i ≡ Some k → class_at (e ∷ h) i ≡ Some k → confirmed_in i e ≡ [] →
    (old ≡ by_class h i k → new ≡ raised old (more_by h i e k)) → Meets i h old → Meets i (e ∷ h) new
step k h i e old new legal class later none adds meets =
    let before = meets ∙ tally_is h i k class in
    adds before ∙ ap (λ (t : Tally). raised t (more_by h i e k)) before ∙ sym (grows_aside k h i e legal none) ∙ sym (tally_is (e ∷ h) i k later)

pub read_kept : (h : Record) (i stream : ℕ) (took : Taken) (old : Tally) (bytes r l o u : ℕ) (new : NewLines) → IsLegal (Read i stream took ∷ h) →
    bytes ≡ capped (length (bytes_of took)) → AreNew h i stream took new → r ≡ capped (old.read + bytes) → l ≡ capped (old.lines + new.lines) →
    o ≡ capped (old.overlong + new.overlong) → u ≡ capped (old.undecodable + new.undecodable) → Meets i h old →
    Meets i (Read i stream took ∷ h) (record old { read = r; lines = l; overlong = o; undecodable = u })
read_kept h i stream took old bytes r l o u new kept is_bytes are_new is_r is_l is_o is_u =
    step Source h i (Read i stream took) old (record old { read = r; lines = l; overlong = o; undecodable = u }) kept class class refl (λ before. λ t. record old {
      read = more_self r old.read bytes (length (bytes_of took)) i (bytes_taken h i) (ap (λ (t : Tally). t.read) before) is_r is_bytes t;
      lines = more_self l old.lines new.lines (length (new_lines h i stream took)) i (lines_read h i) (ap (λ (t : Tally). t.lines) before) is_l are_new.lines t;
      overlong = more_self o old.overlong new.overlong (new_overlong h i stream took) i (overlong_read h i) (ap (λ (t : Tally). t.overlong) before) is_o are_new.overlong t;
      undecodable = more_self u old.undecodable new.undecodable (new_undecodable h i stream took) i (undecodable_read h i) (ap (λ (t : Tally). t.undecodable) before) is_u are_new.undecodable t;
    })
  where
    class : class_at h i ≡ Some Source
    class = source_is h i kept.0.row.turn.source

one_birth : (i : ℕ) (birth : Birth) → length (if i == i then birth ∷ [] else []) ≡ 1
one_birth i birth = ap (λ (b : Bool). length (if b then birth ∷ [] else [])) (itself i)

pub born_kept : (h : Record) (i b place stream end : ℕ) (copies : List ℕ) (made : List Event) (waits : Bool) (old : Tally) (events n k : ℕ) →
    IsLegal (Born i b place copies made waits stream end ∷ h) → events ≡ capped (length made) →
    n ≡ capped (old.events + events) → k ≡ capped (old.batches + 1) → Meets i h old →
    Meets i (Born i b place copies made waits stream end ∷ h) (record old { events = n; batches = k })
born_kept h i b place stream end copies made waits old events n k kept is_events is_n is_k =
    step Source h i (Born i b place copies made waits stream end) old (record old { events = n; batches = k }) kept class class refl (λ before. λ t. record old {
      events = more_self n old.events events (length made) i (events_born h i) (ap (λ (t : Tally). t.events) before) is_n is_events t;
      batches = one_more k old.batches (length (if i == i then birth ∷ [] else [])) is_k (one_birth i birth) t;
    })
  where
    birth : Birth
    birth = record { batch = b; waits = waits; stream = stream; end = end }

    class : class_at h i ≡ Some Source
    class = source_is h i (creator_is h i (record { events = made; stream = stream; end = end }) kept.1 kept.0.row.yields)

-- what a notice adds to its owner's counts
abbrev noted_as : BatchStatus → Bool → Tally
noted_as s own = record nothing_counted {
  delivered = if same_end s batch.Delivered && own then 1 else 0;
  errored = if same_end s batch.Errored && own then 1 else 0;
  rejected = if same_end s batch.Rejected && own then 1 else 0;
}

notice_kept : (h : Record) (i b : ℕ) (status s : BatchStatus) (old new : Tally) → status ≡ s → IsLegal (Notice b status ∷ h) → is_batch_of h i b ≡ true →
    new ≡ raised old (noted_as s true) → Meets i h old → Meets i (Notice b status ∷ h) new
notice_kept h i b status s old new is kept own adds =
    step Source h i (Notice b status) old new kept class class refl (λ before. adds ∙ (λ t. raised old (noted_as (sym is t) (sym own t))))
  where
    class : class_at h i ≡ Some Source
    class = source_is h i (owner_is h i b kept.1 own)

pub notice_delivered : (h : Record) (i b : ℕ) (status : BatchStatus) (old : Tally) (n : ℕ) → status ≡ batch.Delivered → IsLegal (Notice b status ∷ h) → is_batch_of h i b ≡ true →
    n ≡ capped (old.delivered + 1) → Meets i h old → Meets i (Notice b status ∷ h) (record old { delivered = n })
notice_delivered h i b status old n is kept own is_n =
    notice_kept h i b status batch.Delivered old (record old { delivered = n }) is kept own (λ t. record old { delivered = is_n t })

pub notice_errored : (h : Record) (i b : ℕ) (status : BatchStatus) (old : Tally) (n : ℕ) → status ≡ batch.Errored → IsLegal (Notice b status ∷ h) → is_batch_of h i b ≡ true →
    n ≡ capped (old.errored + 1) → Meets i h old → Meets i (Notice b status ∷ h) (record old { errored = n })
notice_errored h i b status old n is kept own is_n =
    notice_kept h i b status batch.Errored old (record old { errored = n }) is kept own (λ t. record old { errored = is_n t })

pub notice_rejected : (h : Record) (i b : ℕ) (status : BatchStatus) (old : Tally) (n : ℕ) → status ≡ batch.Rejected → IsLegal (Notice b status ∷ h) → is_batch_of h i b ≡ true →
    n ≡ capped (old.rejected + 1) → Meets i h old → Meets i (Notice b status ∷ h) (record old { rejected = n })
notice_rejected h i b status old n is kept own is_n =
    notice_kept h i b status batch.Rejected old (record old { rejected = n }) is kept own (λ t. record old { rejected = is_n t })

pub confirm_kept : (h : Record) (i : ℕ) (positions : List Position) (old : Tally) (n : ℕ) → IsLegal (Confirm i positions true ∷ h) →
    n ≡ capped (sum (map (λ (p : Position). p.end) positions)) → Meets i h old → Meets i (Confirm i positions true ∷ h) (record old { confirmed = n })
confirm_kept h i positions old n kept is_n meets =
    let class : class_at h i ≡ Some Source = source_is h i kept.0.row.source in
    let before = meets ∙ tally_is h i Source class in
    let ends = is_n ∙ ap (λ ps. capped (sum (map (λ (p : Position). p.end) ps))) (sym (confirms_all h i positions kept)) in
    (λ t. record (before t) { confirmed = ends t }) ∙ sym (grows Source h i (Confirm i positions true) kept) ∙ sym (tally_is (Confirm i positions true ∷ h) i Source class)

pub take_kept : (h : Record) (i s : ℕ) (copies : List ℕ) (old : Tally) (n : ℕ) → IsLegal (Take i s copies ∷ h) → n ≡ capped (old.taken + 1) → Meets i h old →
    Meets i (Take i s copies ∷ h) (record old { taken = n })
take_kept h i s copies old n kept is_n = elim (taker_is h i s kept.0.row.first) [
  | inl class ↦ step Transform h i (Take i s copies) old (record old { taken = n }) kept class class refl (λ before. λ t. record old { taken = one_self n old.taken i is_n t })
  | inr class ↦ step Sink h i (Take i s copies) old (record old { taken = n }) kept class class refl (λ before. λ t. record old { taken = one_self n old.taken i is_n t })
]

pub answer_kept : (h : Record) (i : ℕ) (made : List Output) (discarded keeps : List ℕ) (old : Tally) (sent dropped n k : ℕ) → IsLegal (Answer i made discarded keeps ∷ h) →
    sent ≡ capped (length made) → dropped ≡ capped (count_by (is_first h i) discarded) → n ≡ capped (old.sent + sent) → k ≡ capped (old.dropped + dropped) → Meets i h old →
    Meets i (Answer i made discarded keeps ∷ h) (record old { sent = n; dropped = k })
answer_kept h i made discarded keeps old sent dropped n k kept is_sent is_dropped is_n is_k =
    step Transform h i (Answer i made discarded keeps) old (record old { sent = n; dropped = k }) kept class class refl (λ before. λ t. record old {
      sent = more_self n old.sent sent (length made) i (sent_parcels h i) (ap (λ (t : Tally). t.sent) before) is_n is_sent t;
      dropped = more_self k old.dropped dropped (count_by (is_first h i) discarded) i (dropped_parcels h i) (ap (λ (t : Tally). t.dropped) before) is_k is_dropped t;
    })
  where
    class : class_at h i ≡ Some Transform
    class = transform_is h i (answerer h i made discarded keeps kept)

pub attempt_kept : (h : Record) (i : ℕ) (copies : List ℕ) (gave : ByteString) (reply : Reply) (old : Tally) (bytes n k : ℕ) → IsLegal (Attempt i copies gave reply ∷ h) →
    bytes ≡ capped (length gave) → n ≡ capped (old.attempts + 1) → k ≡ capped (old.bytes + bytes) → Meets i h old →
    Meets i (Attempt i copies gave reply ∷ h) (record old { attempts = n; bytes = k })
attempt_kept h i copies gave reply old bytes n k kept is_bytes is_n is_k =
    step Sink h i (Attempt i copies gave reply) old (record old { attempts = n; bytes = k }) kept class class refl (λ before. λ t. record old {
      attempts = one_self n old.attempts i is_n t;
      bytes = more_self k old.bytes bytes (length gave) i (bytes_sent h i) (ap (λ (t : Tally). t.bytes) before) is_k is_bytes t;
    })
  where
    class : class_at h i ≡ Some Sink
    class = sink_is h i kept.0.row.sink

-- WHERE A COPY COUNTS
unread_here : (h : Record) (i j c : ℕ) → IsConserved h → times_spent h c ≡ 0 → BeginsUnread h i c → unread_in h i (Spent j c NoConsumer) ≡ 1
unread_here h i j c kept unspent begins =
    unread_by h i i j c begins.copies kept unspent begins.put ∙ own_first i c (first_copy begins.copies) begins.first

newest_here : (h : Record) (i j c : ℕ) → IsConserved h → times_spent h c ≡ 0 → BeginsNewest h i c → newest_in h i (Spent j c NewestDropped) ≡ 1
newest_here h i j c kept unspent begins =
    newest_by h i begins.giver i j c begins.copies kept unspent begins.put ∙ own_first i c (first_copy begins.copies) begins.first

pub unread_kept : (h : Record) (i j c : ℕ) (old : Tally) (n : ℕ) → IsLegal (Spent j c NoConsumer ∷ h) → IsGiver (class_at h i) → BeginsUnread h i c → n ≡ capped (old.unread + 1) →
    Meets i h old → Meets i (Spent j c NoConsumer ∷ h) (record old { unread = n })
unread_kept h i j c old n kept giver begins is_n meets = go (class_at h i) refl giver
  where
    adds : n ≡ grown old.unread (unread_in h i (Spent j c NoConsumer))
    adds = one_more n old.unread (unread_in h i (Spent j c NoConsumer)) is_n (unread_here h i j c (conserved h kept.1) kept.0.row.live.2 begins)

    go : (k : Option Class) → class_at h i ≡ k → IsGiver k → Meets i (Spent j c NoConsumer ∷ h) (record old { unread = n })
    go None class bad = absurd bad
    go (Some Source) class fine = step Source h i (Spent j c NoConsumer) old (record old { unread = n }) kept class class refl (λ before. λ t. record old { unread = adds t }) meets
    go (Some Transform) class fine = step Transform h i (Spent j c NoConsumer) old (record old { unread = n }) kept class class refl (λ before. λ t. record old { unread = adds t }) meets
    go (Some Sink) class bad = absurd bad

pub newest_kept : (h : Record) (i j c : ℕ) (old : Tally) (n : ℕ) → IsLegal (Spent j c NewestDropped ∷ h) → class_at h i ≡ Some Sink → BeginsNewest h i c →
    n ≡ capped (old.newest + 1) → Meets i h old → Meets i (Spent j c NewestDropped ∷ h) (record old { newest = n })
newest_kept h i j c old n kept class begins is_n =
    step Sink h i (Spent j c NewestDropped) old (record old { newest = n }) kept class class refl (λ before. λ t. record old {
      delivered = none event.Delivered old.delivered refl t;
      errored = none event.Errored old.errored refl t;
      rejected = none event.Rejected old.rejected refl t;
      newest = one_more n old.newest (newest_in h i (Spent j c NewestDropped)) is_n (newest_here h i j c (conserved h kept.1) kept.0.row.live.2 begins) t;
    })
  where
    none : (s : EventStatus) (n : ℕ) → same_status event.Dropped s ≡ false → n ≡ grown n (spent_in s h i (Spent j c NewestDropped))
    none s n counted = no_more n (spent_in s h i (Spent j c NewestDropped)) (held_none s h i j c NewestDropped counted)

-- what the copy that comes first in a parcel adds to the counts of a sink that took it
abbrev held_as : EventStatus → Tally
held_as s = record nothing_counted {
  delivered = one_if (same_status s event.Delivered && true);
  errored = one_if (same_status s event.Errored && true);
  rejected = one_if (same_status s event.Rejected && true);
}

spent_kept : (h : Record) (i j c : ℕ) (outcome : Outcome) (status : EventStatus) (old new : Tally) → status_of outcome ≡ status → is_newest outcome ≡ false → IsLegal (Spent j c outcome ∷ h) →
    class_at h i ≡ Some Sink → is_first h i c ≡ true → new ≡ raised old (held_as status) → Meets i h old → Meets i (Spent j c outcome ∷ h) new
spent_kept h i j c outcome status old new is older kept class first adds =
    step Sink h i (Spent j c outcome) old new kept class class refl (λ before. adds ∙ ap (raised old) (ap held_as (sym is) ∙ sym held))
  where
    counts : (s : EventStatus) → spent_in s h i (Spent j c outcome) ≡ one_if (same_status (status_of outcome) s && true)
    counts s = held_by s h i j c outcome (conserved h kept.1) kept.0.row.live.2 ∙ ap (λ b. one_if (same_status (status_of outcome) s && b)) first

    held : sink_more h i (Spent j c outcome) ≡ held_as (status_of outcome)
    held = λ t. record nothing_counted {
      delivered = counts event.Delivered t;
      errored = counts event.Errored t;
      rejected = counts event.Rejected t;
      newest = newest_none h i j c outcome older t;
    }

pub spent_dropped : (h : Record) (i j c : ℕ) (outcome : Outcome) (old : Tally) → status_of outcome ≡ event.Dropped → is_newest outcome ≡ false → IsLegal (Spent j c outcome ∷ h) →
    class_at h i ≡ Some Sink → is_first h i c ≡ true → Meets i h old → Meets i (Spent j c outcome ∷ h) old
spent_dropped h i j c outcome old status older kept class first = spent_kept h i j c outcome event.Dropped old old status older kept class first refl

pub spent_delivered : (h : Record) (i j c : ℕ) (outcome : Outcome) (old : Tally) (n : ℕ) → status_of outcome ≡ event.Delivered → is_newest outcome ≡ false → IsLegal (Spent j c outcome ∷ h) →
    class_at h i ≡ Some Sink → is_first h i c ≡ true → n ≡ capped (old.delivered + 1) → Meets i h old → Meets i (Spent j c outcome ∷ h) (record old { delivered = n })
spent_delivered h i j c outcome old n status older kept class first is_n =
    spent_kept h i j c outcome event.Delivered old (record old { delivered = n }) status older kept class first (λ t. record old { delivered = is_n t })

pub spent_errored : (h : Record) (i j c : ℕ) (outcome : Outcome) (old : Tally) (n : ℕ) → status_of outcome ≡ event.Errored → is_newest outcome ≡ false → IsLegal (Spent j c outcome ∷ h) →
    class_at h i ≡ Some Sink → is_first h i c ≡ true → n ≡ capped (old.errored + 1) → Meets i h old → Meets i (Spent j c outcome ∷ h) (record old { errored = n })
spent_errored h i j c outcome old n status older kept class first is_n =
    spent_kept h i j c outcome event.Errored old (record old { errored = n }) status older kept class first (λ t. record old { errored = is_n t })

pub spent_rejected : (h : Record) (i j c : ℕ) (outcome : Outcome) (old : Tally) (n : ℕ) → status_of outcome ≡ event.Rejected → is_newest outcome ≡ false → IsLegal (Spent j c outcome ∷ h) →
    class_at h i ≡ Some Sink → is_first h i c ≡ true → n ≡ capped (old.rejected + 1) → Meets i h old → Meets i (Spent j c outcome ∷ h) (record old { rejected = n })
spent_rejected h i j c outcome old n status older kept class first is_n =
    spent_kept h i j c outcome event.Rejected old (record old { rejected = n }) status older kept class first (λ t. record old { rejected = is_n t })
