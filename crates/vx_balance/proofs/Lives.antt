-- How each entry changes the count of a batch's live copies.
use Rattle.std.proofs.Common.{◌≡◌, ◌↔◌, ℕ, ◌+◌, ◌-◌, ◌*◌, ◌%◌, ◌<◌, ◌≤◌, Bool, true, false, List, [], ◌∷◌, length, refl, ap, ◌∙◌, subst, arith, inl, inr}
use Rattle.std.specs.Prelude.{if◌then◌else◌, ◌==◌, ◌&&◌, slice_index}
use Rattle.std.proofs.lemmas.Bool.Decides.{nat_tests}
use Rattle.std.proofs.lemmas.Bool.{cases_lt}
use Rattle.vx_value.specs.declared.event.Event.{Event}
use Rattle.vx_status.specs.declared.outcome.Outcome.{Outcome}
use Rattle.vx_record.specs.Records.{Record}
use Rattle.vx_record.specs.declared.child.Child.{Child}
use Rattle.vx_record.specs.declared.entry.Entry.{Entry}
use Rattle.vx_record.specs.declared.entry.Entry.TheVariants.{Born, Split, Spent}
use Rattle.vx_record.specs.Copies.{count, next_copy, times_split, times_spent, all_of, makes, splits, spends, IsLive}
use Rattle.vx_record.specs.Batches.{parent, batch_of}
use Rattle.vx_record.specs.Moving.{IsConserved}
use Rattle.vx_record.proofs.Counts.{count-append}
use Rattle.vx_record.proofs.OnePlace.{tracked}
use Rattle.vx_record.proofs.Live.{if_lt, if_ge, unmade_whole, split_live}
use Rattle.vx_record.proofs.Dues.{NoneLive, none_live, has_none_live}
use Rattle.vx_balance.specs.Live.{sum_below, live_in, live_copies}
use Rattle.vx_balance.specs.Promises.{CountsLive}
use Rattle.vx_balance.proofs.Sums.{sum_same, sum_each, sum_share, sum_some, sum_more, sum_rounds, of_batch, sum_list, left_in, sum_ended}

-- how often a copy was split or spent
abbrev pub ended : Record → ℕ → ℕ
ended h c = times_split h c + times_spent h c

pub ended_more : (h : Record) (e : Entry) (c : ℕ) → ended (e ∷ h) c ≡ ended h c + (count c (splits e) + count c (spends e))
ended_more h e c =
    let s = count-append c (all_of splits h) (splits e) in
    let x = count-append c (all_of spends h) (spends e) in
    omega (arith, s, x)

live_as : (h k : Record) (b c : ℕ) → batch_of k c ≡ batch_of h c → ended k c ≡ ended h c → live_in k b c ≡ live_in h b c
live_as h k b c batch same =
    ap {B = ℕ} (λ n. if (n == b) && (ended k c == 0) then 1 else 0) batch ∙ ap {B = ℕ} (λ n. if (batch_of h c == b) && (n == 0) then 1 else 0) same

-- NOTHING ENDS
pub live_still : (h : Record) (e : Entry) (b : ℕ) → makes e ≡ 0 → splits e ≡ [] → spends e ≡ [] → ((c : ℕ) → batch_of (e ∷ h) c ≡ batch_of h c) →
    live_copies (e ∷ h) b ≡ live_copies h b
live_still h e b none no_split no_spend batch =
    ap (sum_below (live_in (e ∷ h) b)) stays ∙ sum_same (live_in (e ∷ h) b) (live_in h b) (next_copy h) (λ c l. live_as h (e ∷ h) b c (batch c) (still c))
  where
    stays : next_copy (e ∷ h) ≡ next_copy h
    stays = omega (arith, none)

    still : (c : ℕ) → ended (e ∷ h) c ≡ ended h c
    still c =
        let m = ended_more h e c in
        let s = ap (count c) no_split in
        let x = ap (count c) no_spend in
        omega (arith, m, s, x)

-- SOME END
pub live_parts : (h : Record) (b : ℕ) (xs : List ℕ) → ((c : ℕ) → 0 < count c xs → IsLive h c) → ((c : ℕ) → count c xs ≤ 1) →
    sum_below (left_in (batch_of h) (ended h) b xs) (next_copy h) + of_batch (batch_of h) b xs ≡ live_copies h b
live_parts h b xs live once =
    let parts = sum_ended (batch_of h) (ended h) b (next_copy h) xs (λ c l. let v = live c l in (v.0, omega (arith, v.1, v.2))) once in
    let whole = sum_same (left_in (batch_of h) (ended h) b []) (live_in h b) (next_copy h) (λ c l. ap {B = ℕ} (λ n. if (batch_of h c == b) && (n == 0) then 1 else 0) (plus_none (ended h c))) in
    omega (arith, parts, whole)
  where
    plus_none : (n : ℕ) → n + 0 ≡ n
    plus_none n = omega arith

pub live_ended : (h k : Record) (b : ℕ) (xs : List ℕ) → ((c : ℕ) → c < next_copy h → batch_of k c ≡ batch_of h c) → ((c : ℕ) → ended k c ≡ ended h c + count c xs) →
    ((c : ℕ) → 0 < count c xs → IsLive h c) → ((c : ℕ) → count c xs ≤ 1) → sum_below (live_in k b) (next_copy h) + of_batch (batch_of h) b xs ≡ live_copies h b
live_ended h k b xs batch more live once =
    let parts = live_parts h b xs live once in
    let same = sum_same (live_in k b) (left_in (batch_of h) (ended h) b xs) (next_copy h)
    (λ c l. ap {B = ℕ} (λ n. if (n == b) && (ended k c == 0) then 1 else 0) (batch c l) ∙ ap {B = ℕ} (λ n. if (batch_of h c == b) && (n == 0) then 1 else 0) (more c)) in
    omega (arith, parts, same)

-- A COPY IS SPENT
pub live_spent : (h : Record) (i c b : ℕ) (o : Outcome) → IsLive h c →
    live_copies (Spent i c o ∷ h) b + (if batch_of h c == b then 1 else 0) ≡ live_copies h b
live_spent h i c b o live =
    let e = live_ended h (Spent i c o ∷ h) b (c ∷ []) (λ d l. refl) (λ d. let m = ended_more h (Spent i c o) d in omega (arith, m)) mine (λ d. at_most (c == d)) in
    let n = ap (sum_below (live_in (Spent i c o ∷ h) b)) stays in
    omega (arith, e, n)
  where
    stays : next_copy (Spent i c o ∷ h) ≡ next_copy h
    stays = omega arith

    at_most : (t : Bool) → (if t then 1 else 0) + 0 ≤ 1
    at_most true = omega arith
    at_most false = omega arith

    one : (d : ℕ) → 0 < count d (c ∷ []) → c ≡ d
    one d l = grind (arith, nat_tests)

    mine : (d : ℕ) → 0 < count d (c ∷ []) → IsLive h d
    mine d l = subst (IsLive h) (one d l) live

-- A BATCH IS BORN
new_in : (x t b b' : ℕ) → x ≡ b → t ≡ 0 → ◌≡◌ {A = ℕ} (if (x == b') && (t == 0) then 1 else 0) (if b == b' then 1 else 0)
new_in x t b b' same none = grind (arith, nat_tests, same, none)

times_if : (n : ℕ) (t : Bool) → n * (if t then 1 else 0) ≡ (if t then n else 0)
times_if n true = omega arith
times_if n false = omega arith

pub live_born : (h : Record) (i b place : ℕ) (copies : List ℕ) (events : List Event) (waits : Bool) (stream end b' : ℕ) → IsConserved h →
    live_copies (Born i b place copies events waits stream end ∷ h) b' ≡ live_copies h b' + (if b == b' then length copies else 0)
live_born h i b place copies events waits stream end b' kept =
    let parts = sum_more (live_in k b') (next_copy h) (length copies) in
    let old = sum_same (live_in k b') (live_in h b') (next_copy h) (λ c l. live_as h k b' c (if_lt c (next_copy h) (batch_of h c) b l) (still c)) in
    let new = sum_each (λ j. live_in k b' (next_copy h + j)) (if b == b' then 1 else 0) (length copies)
    (λ j l. new_in (batch_of k (next_copy h + j)) (ended k (next_copy h + j)) b b' (if_ge (next_copy h + j) (next_copy h) (batch_of h (next_copy h + j)) b (omega arith)) (unmade (next_copy h + j) (omega arith))) in
    let all = times_if (length copies) (b == b') in
    omega (arith, parts, old, new, all)
  where
    k : Record
    k = Born i b place copies events waits stream end ∷ h

    still : (c : ℕ) → ended k c ≡ ended h c
    still c = let m = ended_more h (Born i b place copies events waits stream end) c in omega (arith, m)

    unmade : (c : ℕ) → next_copy h ≤ c → ended k c ≡ 0
    unmade c l = let whole = unmade_whole h c (tracked h c kept) l in let m = still c in omega (arith, m, whole.0, whole.1)

-- COPIES ARE SPLIT
-- each copy that a Split replaces it replaces once
pub split_once : (h : Record) (i ports : ℕ) (copies : List ℕ) (event : Event) (children : List Child) (c : ℕ) → IsConserved (Split i ports copies event children ∷ h) → count c copies ≤ 1
split_once h i ports copies event children c kept =
    let t = tracked (Split i ports copies event children ∷ h) c kept in
    let o = t.once in
    let s = count-append c (all_of splits h) copies in
    elim (cases_lt c (next_copy (Split i ports copies event children ∷ h))) [
      | inl below ↦ let m = t.made below in omega (arith, o, s, m)
      | inr above ↦ let m = t.unmade above in omega (arith, o, s, m)
    ]

pub live_split : (h : Record) (i ports : ℕ) (copies : List ℕ) (event : Event) (children : List Child) (b : ℕ) → IsConserved (Split i ports copies event children ∷ h) →
    live_copies (Split i ports copies event children ∷ h) b + of_batch (batch_of h) b copies ≡ live_copies h b + length children * of_batch (batch_of h) b copies
live_split h i ports copies event children b kept =
    let parts = sum_more (live_in k b) (next_copy h) (length children * length copies) in
    let old = live_ended h k b copies (λ c l. if_lt c (next_copy h) (batch_of h c) (batch_of h (parent (next_copy h) copies c)) l) more live (λ c. split_once h i ports copies event children c kept) in
    let each = sum_same (λ j. live_in k b (next_copy h + j)) (λ j. child_in (j % length copies)) (length children * length copies) (λ j l. new j) in
    let rounds = sum_rounds child_in (length children) (length copies) in
    let one = ap (λ n. length children * n) (sum_list (batch_of h) b copies) in
    omega (arith, parts, old, each, rounds, one)
  where
    k : Record
    k = Split i ports copies event children ∷ h

    child_in : ℕ → ℕ
    child_in j = if batch_of h (slice_index copies j) == b then 1 else 0

    more : (c : ℕ) → ended k c ≡ ended h c + count c copies
    more c = let m = ended_more h (Split i ports copies event children) c in omega (arith, m)

    live : (c : ℕ) → 0 < count c copies → IsLive h c
    live c l = split_live h c i ports copies event children (tracked h c kept.1) kept.0 l

    unmade : (c : ℕ) → next_copy h ≤ c → ended k c ≡ 0
    unmade c l =
        let whole = unmade_whole h c (tracked h c kept.1) l in
        let m = more c in
        elim (cases_lt 0 (count c copies)) [
          | inl some ↦ let v = (live c some).0 in absurd (omega (arith, v, l))
          | inr none ↦ omega (arith, whole.0, whole.1, m, none)
        ]

    new : (j : ℕ) → live_in k b (next_copy h + j) ≡ child_in (j % length copies)
    new j =
        let back : (next_copy h + j) - next_copy h ≡ j = omega arith in
        let batch = if_ge (next_copy h + j) (next_copy h) (batch_of h (next_copy h + j)) (batch_of h (parent (next_copy h) copies (next_copy h + j))) (omega arith) in
        let from = ap (λ n. batch_of h (slice_index copies (n % length copies))) back in
        new_in (batch_of k (next_copy h + j)) (ended k (next_copy h + j)) (batch_of h (slice_index copies (j % length copies))) b (batch ∙ from) (unmade (next_copy h + j) (omega arith))

-- NONE IS LIVE
counted_one : (x t b : ℕ) → x ≡ b → t ≡ 0 → ◌≡◌ {A = ℕ} (if (x == b) && (t == 0) then 1 else 0) 1
counted_one x t b same none = grind (arith, nat_tests, same, none)

counted_batch : (x t b : ℕ) → 0 < (if (x == b) && (t == 0) then 1 else 0) → x ≡ b
counted_batch x t b some = grind (arith, nat_tests, some)

counted_whole : (x t b : ℕ) → 0 < (if (x == b) && (t == 0) then 1 else 0) → t ≡ 0
counted_whole x t b some = grind (arith, nat_tests, some)

pub live_none : (h : Record) (b : ℕ) → (live_copies h b ≡ 0) ↔ NoneLive h b
live_none h b = (
  (λ none c batch live.
      let share = sum_share (live_in h b) c (next_copy h) live.0 in
      let one = counted_one (batch_of h c) (ended h c) b batch (omega (arith, live.1, live.2)) in
      omega (arith, share, one, none)),
  (λ none. elim (cases_lt 0 (live_copies h b)) [
    | inl some ↦
        let (c, below, here) = sum_some (live_in h b) (next_copy h) some in
        let whole = counted_whole (batch_of h c) (ended h c) b here in
        absurd (none c (counted_batch (batch_of h c) (ended h c) b here) (below, omega (arith, whole), omega (arith, whole)))
    | inr l ↦ omega (arith, l)
  ]),
)

pub counts_live : CountsLive
counts_live h b = (λ none. has_none_live h b ((live_none h b).0 none), λ none. (live_none h b).1 (none_live h b none))
