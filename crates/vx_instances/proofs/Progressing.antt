-- How far an instance has come: the batches that it created, their numbers and notices, what an entry leaves of them, and what is due.
use Rattle.std.proofs.Common.{◌≡◌, ◌∙◌, ◌<◌, ◌≤◌, inl, inr, ℕ, ◌+◌, Bool, true, false, Option, Some, None, List, [], ◌∷◌, ◌++◌, length, refl, sym, ap, arith}
use Rattle.std.specs.Prelude.{◌==◌, ◌&&◌, ◌||◌, not, if◌then◌else◌, is_some}
use Rattle.std.specs.List.{list_any}
use Rattle.std.proofs.lemmas.Bool.{cases_eq, or_parts}
use Rattle.std.proofs.lemmas.Bool.Decides.{nat_tests}
use Rattle.std.proofs.lemmas.List.{append-nil}
use Rattle.vx_ends.specs.declared.position.Position.{Position}
use Rattle.vx_value.specs.Texts.{is_empty}
use Rattle.vx_status.specs.declared.batch_status.BatchStatus.{BatchStatus}
use Rattle.vx_record.specs.declared.entry.Entry.{Entry}
use Rattle.vx_record.specs.declared.entry.Entry.TheVariants.{Install, Lease, Born, Notice, Abandon}
use Rattle.vx_record.specs.Records.{Record}
use Rattle.vx_record.specs.Legal.{IsLegal}
use Rattle.vx_record.specs.Copies.{next_copy}
use Rattle.vx_record.specs.Tasks.{is_of}
use Rattle.vx_record.specs.Sourcing.{must_wait}
use Rattle.vx_record.specs.Abandoning.{abandoned}
use Rattle.vx_record.specs.Ceasing.{cause_of}
use Rattle.vx_record.specs.Installs.{device_at, source_at}
use Rattle.vx_record.specs.Confirms.{Birth, births, due, is_confirm_due, is_delivered, is_noticed, last_confirm, same_positions, was_delivered}
use Rattle.vx_record.specs.Tallies.{is_batch_of}
use Rattle.vx_record.specs.Laws.{times_noticed}
use Rattle.vx_record.proofs.Dues.{awaits}
use Rattle.vx_record.proofs.Notices.{noticed}
use Rattle.vx_record.proofs.LegalNotices.{accounted}
use Rattle.vx_counts.proofs.Numbering.{owner_is}
use Rattle.vx_counts.proofs.Once.{itself}
use Rattle.vx_sourcecore.specs.declared.prefix.Due.{Due}
use Rattle.vx_sourcecore.specs.Prefixes.{AreApart, IsAskFor, IsNoneOf, NoticeChanges, birth_at}
use Rattle.vx_sourcecore.proofs.Prefixing.{ask_none, ask_some, prefix_by, SaysSame}
use Rattle.vx_tasks.specs.Out.{AreDue}
use Rattle.vx_instances.specs.declared.progress.Progress.{Progress}
use Rattle.vx_instances.specs.Knowing.{HasProgress, count_unnoticed, judged_by, asked}
use Rattle.vx_instances.proofs.Observing.{InstallsNothing}

-- NUMBERS
-- the numbers of some batches rise from one number on, and end below another
abbrev Rise : ℕ → ℕ → List Birth → Type 0
Rise low high [] = low ≤ high
Rise low high (birth ∷ rest) = (low ≤ birth.batch) × Rise (birth.batch + 1) high rest

rise_on : (low high more : ℕ) (bs : List Birth) → high ≤ more → Rise low high bs → Rise low more bs
rise_on low high more [] l rise = omega arith
rise_on low high more (b ∷ bs) l rise = (rise.0, rise_on (b.batch + 1) high more bs l rise.1)

rise_more : (low high more : ℕ) (bs : List Birth) (birth : Birth) → birth.batch ≡ high → high < more → Rise low high bs → Rise low more (bs ++ birth ∷ [])
rise_more low high more [] birth is l rise = (omega arith, omega arith)
rise_more low high more (b ∷ bs) birth is l rise = (rise.0, rise_more (b.batch + 1) high more bs birth is l rise.1)

-- so there are no more of them than numbers, and each has one of its own
rise_few : (low high : ℕ) (bs : List Birth) → Rise low high bs → low + length bs ≤ high
rise_few low high [] rise = omega arith
rise_few low high (b ∷ bs) rise = let few = rise_few (b.batch + 1) high bs rise.1 in omega arith

rise_none : (b low high : ℕ) (bs : List Birth) → b < low → Rise low high bs → IsNoneOf b bs
rise_none b low high [] l rise = tt
rise_none b low high (x ∷ bs) l rise = (let above = rise.0 in grind (arith, nat_tests, above, l), rise_none b (x.batch + 1) high bs (omega arith) rise.1)

rise_apart : (low high : ℕ) (bs : List Birth) → Rise low high bs → AreApart bs
rise_apart low high [] rise = tt
rise_apart low high (b ∷ bs) rise = (rise_none b.batch (b.batch + 1) high bs (omega arith) rise.1, rise_apart (b.batch + 1) high bs rise.1)

-- the batches of an instance are numbered so, below the next copy
births_rise : (h : Record) (i : ℕ) → IsLegal h → Rise 0 (next_copy h) (births h i)
births_rise [] i legal = omega arith
births_rise (Born j b place copies events waits stream end ∷ h) i legal = go (j == i) (births_rise h i legal.1)
  where
    go : (t : Bool) → Rise 0 (next_copy h) (births h i) →
        Rise 0 (next_copy h + length copies) (births h i ++ (if t then record { batch = b; waits = waits; stream = stream; end = end } ∷ [] else []))
    go true before = let some = legal.0.row.some in rise_more 0 (next_copy h) (next_copy h + length copies) (births h i) _ legal.0.row.number (omega arith) before
    go false before = rw append-nil (rise_on 0 (next_copy h) (next_copy h + length copies) (births h i) (omega arith) before)
births_rise (e ∷ h) i legal = rw append-nil (rise_on 0 (next_copy h) (next_copy (e ∷ h)) (births h i) (omega arith) (births_rise h i legal.1))

pub births_apart : (h : Record) (i : ℕ) → IsLegal h → AreApart (births h i)
births_apart h i legal = rise_apart 0 (next_copy h) (births h i) (births_rise h i legal)

-- NOTICES
noticed_times : (h : Record) (b : ℕ) → times_noticed h b ≡ 0 → is_noticed h b ≡ false
noticed_times [] b none = refl
noticed_times (Notice b' status ∷ h) b none = let ih = noticed_times h b in grind arith
noticed_times (e ∷ h) b none = noticed_times h b none

-- a batch that isn't born has no notice
pub unborn_unnoticed : (h : Record) (b : ℕ) → IsLegal h → b ≡ next_copy h → is_noticed h b ≡ false
unborn_unnoticed h b legal number = noticed_times h b ((noticed h b (accounted h legal)).future (omega arith))

-- nor has one whose notice is due
pub due_unnoticed : (h : Record) (b : ℕ) (status : BatchStatus) → IsLegal (Notice b status ∷ h) → is_noticed h b ≡ false
due_unnoticed h b status legal = noticed_times h b ((noticed h b (accounted h legal.1)).due (awaits h b legal.0.row.due))

-- a batch without a notice wasn't delivered
undelivered : (h : Record) (b : ℕ) → is_noticed h b ≡ false → was_delivered h b ≡ false
undelivered [] b none = refl
undelivered (Notice b' status ∷ h) b none = let ih = undelivered h b in grind arith
undelivered (e ∷ h) b none = undelivered h b none

-- so one that is born may be confirmed only where it needn't wait
pub may_new : (h : Record) (b : ℕ) (waits : Bool) (position : Position) → IsLegal h → b ≡ next_copy h → (judged_by h).may (birth_at waits b position) ≡ not waits
may_new h b waits position legal number = rw (undelivered h b (unborn_unnoticed h b legal number)) (or_none (not waits))
  where
    or_none : (t : Bool) → (t || false) ≡ t
    or_none t = grind arith

-- its notice lets it be confirmed, if it was delivered, and else it never may; of no other batch anything changes
may_or : (w t d : Bool) → (w || (t || d)) ≡ ((w || d) || t)
may_or w t d = grind arith

never_or : (t d n w : Bool) → (t ≡ true → (n ≡ false) × (w ≡ false)) → ((t || n) && not ((t && d) || w)) ≡ ((n && not w) || (t && not d))
never_or t d n w yet = grind arith

never_none : (n w : Bool) → n ≡ false → (n && not w) ≡ false
never_none n w none = grind arith

pub reports : (h : Record) (b : ℕ) (status : BatchStatus) → is_noticed h b ≡ false → NoticeChanges b (is_delivered status) (judged_by h) (judged_by (Notice b status ∷ h))
reports h b status none = record {
  may = λ birth. may_or (not birth.waits) ((b == birth.batch) && is_delivered status) (was_delivered h birth.batch);
  never = λ birth. never_or (b == birth.batch) (is_delivered status) (is_noticed h birth.batch) (was_delivered h birth.batch) (λ same. yet birth (grind (arith, nat_tests, same)));
  first = λ birth same. never_none (is_noticed h birth.batch) (was_delivered h birth.batch) (yet birth (grind (arith, nat_tests, same))).0;
}
  where
    yet : (birth : Birth) → birth.batch ≡ b → (is_noticed h birth.batch ≡ false) × (was_delivered h birth.batch ≡ false)
    yet birth same = rw same (none, undelivered h b none)

-- COUNTS
-- of batches without a notice: no more than batches
count_few : (h : Record) (bs : List Birth) → count_unnoticed h bs ≤ length bs
count_few h [] = omega arith
count_few h (x ∷ bs) = let few = count_few h bs in grind arith

pub unnoticed_few : (h : Record) (i : ℕ) → IsLegal h → count_unnoticed h (births h i) ≤ next_copy h
unnoticed_few h i legal = let few = count_few h (births h i) in let born = rise_few 0 (next_copy h) (births h i) (births_rise h i legal) in omega arith

-- one that is born has none
pub count_born : (h : Record) (bs : List Birth) (birth : Birth) → is_noticed h birth.batch ≡ false → count_unnoticed h (bs ++ birth ∷ []) ≡ count_unnoticed h bs + 1
count_born h [] birth none = rw none (omega arith)
count_born h (x ∷ bs) birth none = let more = count_born h bs birth none in omega arith

-- a notice of none of them
count_other : (h : Record) (b : ℕ) (status : BatchStatus) (bs : List Birth) → IsNoneOf b bs → count_unnoticed (Notice b status ∷ h) bs ≡ count_unnoticed h bs
count_other h b status [] none = refl
count_other h b status (birth ∷ rest) none =
    let apart : (b == birth.batch) ≡ false = let other = none.0 in grind (arith, nat_tests, other) in
    rw (apart, count_other h b status rest none.1)

-- the first notice of one of them
pub count_noticed : (h : Record) (b : ℕ) (status : BatchStatus) (bs : List Birth) → is_noticed h b ≡ false → AreApart bs →
    list_any (λ (birth : Birth). birth.batch == b) bs ≡ true →
    count_unnoticed h bs ≡ count_unnoticed (Notice b status ∷ h) bs + 1
count_noticed h b status [] none apart has = cc
count_noticed h b status (birth ∷ rest) none apart has = elim (cases_eq birth.batch b) [
  | inl same ↦
      let own : (b == birth.batch) ≡ true = grind (arith, nat_tests) in
      let old : is_noticed h birth.batch ≡ false = rw same none in
      let others = count_other h b status rest (rw same at apart.0) in
      rw (own, old) (omega arith)
  | inr other ↦
      let off : (birth.batch == b) ≡ false = grind (arith, nat_tests) in
      let away : (b == birth.batch) ≡ false = grind (arith, nat_tests) in
      let later = count_noticed h b status rest none apart.1 (rw off at has) in
      rw away (omega arith)
]

-- WHAT AN ENTRY LEAVES
-- an entry that changes nothing of how far the instance has come
abbrev pub Stands : Record → ℕ → Entry → Type 0
Stands h i (Install version plan once instances now) = ⊥
Stands h i (Lease j worker now polls) = (j == i) ≡ false
Stands h i (Born j b place copies events waits stream end) = (j == i) ≡ false
Stands h i (Notice b status) = is_batch_of h i b ≡ false
Stands h i other = Unit {0}

-- it is no notice of a batch of the instance
abbrev pub NotesNone : Record → ℕ → Entry → Type 0
NotesNone h i (Notice b status) = is_batch_of h i b ≡ false
NotesNone h i other = Unit {0}

-- so is one of others
pub far_stands : (h : Record) (i : ℕ) (e : Entry) → InstallsNothing e → NotesNone h i e → is_of i e ≡ false → Stands h i e
far_stands h i (Install version plan once instances now) none notes is = none
far_stands h i e none notes is = search

count_same : (h k : Record) (bs : List Birth) → ((b : ℕ) → is_noticed k b ≡ is_noticed h b) → count_unnoticed k bs ≡ count_unnoticed h bs
count_same h k [] same = refl
count_same h k (birth ∷ rest) same = rw (same birth.batch, count_same h k rest same)

pub count_on : (h k : Record) (i : ℕ) → ((b : ℕ) → is_noticed k b ≡ is_noticed h b) → births k i ≡ births h i →
    count_unnoticed k (births k i) ≡ count_unnoticed h (births h i)
count_on h k i same born = count_same h k (births k i) same ∙ ap (count_unnoticed h) born

-- a record that says the same of the batches
progress_same : {p : Progress} (h k : Record) (i : ℕ) → ((b : ℕ) → is_noticed k b ≡ is_noticed h b) → births k i ≡ births h i → judged_by k ≡ judged_by h →
    asked k i ≡ asked h i →
    must_wait k i ≡ must_wait h i → HasProgress p h i → HasProgress p k i
progress_same h k i same born judged ask wait has =
    record { unnoticed = has.unnoticed ∙ sym (count_on h k i same born); waits = has.waits ∙ sym wait; prefix = rw (judged, born, ask) has.prefix }

-- no birth of the instance has the number
none_of : (b : ℕ) (bs : List Birth) → list_any (λ (birth : Birth). birth.batch == b) bs ≡ false → IsNoneOf b bs
none_of b [] is = tt
none_of b (birth ∷ rest) is = let two = or_parts (birth.batch == b) _ is in (two.0, none_of b rest two.1)

-- nothing else is said of batches of other numbers
same_others : (h : Record) (b : ℕ) (status : BatchStatus) → SaysSame b (judged_by h) (judged_by (Notice b status ∷ h))
same_others h b status birth other = let away : (b == birth.batch) ≡ false = grind (arith, nat_tests, other) in rw away (refl, refl)

pub progress_on : (p : Progress) (h : Record) (e : Entry) (i : ℕ) → Stands h i e → HasProgress p h i → HasProgress p (e ∷ h) i
progress_on p h (Install version plan once instances now) i stand has = absurd stand
progress_on p h (Lease j worker now polls) i stand has = progress_same h (Lease j worker now polls ∷ h) i (λ b. refl) (append-nil (births h i)) refl (rw stand refl) refl has
progress_on p h (Born j b place copies events waits stream end) i stand has =
    progress_same h (Born j b place copies events waits stream end ∷ h) i (λ c. refl) (rw stand (append-nil (births h i))) refl refl refl has
progress_on p h (Notice b status) i stand has = record {
  unnoticed = has.unnoticed ∙ sym (ap (count_unnoticed (Notice b status ∷ h)) (append-nil (births h i)) ∙ count_other h b status (births h i) (none_of b (births h i) stand));
  waits = has.waits;
  prefix = rw append-nil
      (prefix_by p.prefix (judged_by h) (judged_by (Notice b status ∷ h)) (births h i) (asked h i) b (same_others h b status) (none_of b (births h i) stand) has.prefix);
}
progress_on p h e i stand has = progress_same h (e ∷ h) i (λ b. refl) (append-nil (births h i)) refl refl refl has

-- WHAT IS DUE
-- positions are equal to themselves
positions_same : (ps : List Position) → same_positions ps ps ≡ true
positions_same [] = refl
positions_same (p ∷ ps) = rw (itself p.stream, itself p.end, positions_same ps) refl

three : (a b c : Bool) → a ≡ true → b ≡ false → c ≡ false → (a && not b && not c) ≡ true
three a b c x y z = grind arith

last_false : (a b c : Bool) → c ≡ true → (a && b && not c) ≡ false
last_false a b c is = grind arith

-- a run that wasn't given up has no cause
pub going_on : (h : Record) → (abandoned h ≡ true → false ≡ true) → cause_of h ≡ None
going_on [] never = refl
going_on (Abandon cause ∷ h) never = let contrary : false ≡ true = never refl in cc
going_on (e ∷ h) never = going_on h never

-- where something is due batches were born, which only a source does
source_due : (h : Record) (i : ℕ) → IsLegal h → is_empty (due h i) ≡ false → source_at h i ≡ true
source_due h i legal some = go (births h i) refl
  where
    go : (bs : List Birth) → births h i ≡ bs → source_at h i ≡ true
    go [] none = let empty : is_empty (due h i) ≡ true = rw none refl in cc
    go (birth ∷ rest) is = owner_is h i birth.batch legal (rw (is, itself birth.batch) refl)

-- at an instance without a device no confirm is due, so a lease of it takes nothing along
pub undue_unported : (h : Record) (i : ℕ) → device_at h i ≡ false → is_confirm_due h i ≡ false
undue_unported h i off = ap (λ (b : Bool). b && not (is_empty (due h i)) && not (same_positions (due h i) (last_confirm h i))) off

pub none_unported : (h : Record) (i worker now polls : ℕ) → device_at h i ≡ false → AreDue (Lease i worker now polls ∷ h) i None
none_unported h i worker now polls off = rw (itself i) (undue_unported h i off)

module _ (h : Record) (i : ℕ) (legal : IsLegal h) (observed : last_confirm h i ≡ asked h i) where
  -- where it was asked for all that is due, no confirm is due
  undue : due h i ≡ asked h i → is_confirm_due h i ≡ false
  undue same =
      let all : due h i ≡ last_confirm h i = same ∙ sym observed in
      last_false (device_at h i) (not (is_empty (due h i))) (same_positions (due h i) (last_confirm h i))
      (ap (λ (ps : List Position). same_positions ps (last_confirm h i)) all ∙ positions_same (last_confirm h i))

  -- and where it wasn't, one is
  due_some : device_at h i ≡ true → is_empty (due h i) ≡ false → same_positions (due h i) (asked h i) ≡ false → is_confirm_due h i ≡ true
  due_some device some new =
      three (device_at h i) (is_empty (due h i)) (same_positions (due h i) (last_confirm h i)) device some (ap (same_positions (due h i)) observed ∙ new)

  -- so what a lease takes along is due
  pub asked_due : (o : Option (List Position)) (worker now polls : ℕ) → device_at h i ≡ true → IsAskFor o (due h i) (asked h i) →
      AreDue (Lease i worker now polls ∷ h) i o
  asked_due None worker now polls device ask = rw (itself i) (undue ask)
  asked_due (Some positions) worker now polls device ask = rw (itself i) (source_due h i legal ask.1.0, (due_some device ask.1.0 ask.1.1, ask.0))

  -- and what is kept tells whether one is
  pub due_is : (p : Progress) → device_at h i ≡ true → HasProgress p h i → is_some p.prefix.due ≡ is_confirm_due h i
  due_is p device has = go p.prefix.due refl
    where
      go : (o : Option Due) → p.prefix.due ≡ o → is_some o ≡ is_confirm_due h i
      go None at = sym (undue (ask_none p.prefix (judged_by h) (births h i) (asked h i) at has.prefix))
      go (Some found) at = let ask = ask_some p.prefix found (judged_by h) (births h i) (asked h i) at has.prefix in sym (due_some device ask.1.0 ask.1.1)
