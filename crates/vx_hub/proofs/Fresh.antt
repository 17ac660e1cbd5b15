-- What a sink that is out holds, and for what it needn't wait.
use Rattle.std.proofs.Common.{◌≡◌, ◌∙◌, ℕ, ◌+◌, ◌<◌, ◌≤◌, Bool, true, false, List, [], ◌∷◌, length, ap, refl, sym, subst, arith, inl, inr}
use Rattle.std.specs.Prelude.{◌==◌, ◌&&◌, ◌||◌, not, nat_le, nat_lt, if◌then◌else◌}
use Rattle.std.proofs.lemmas.Bool.{and_parts, cases_lt, lt-ltb}
use Rattle.std.proofs.lemmas.Bool.Decides.{nat_tests}
use Rattle.vx_value.specs.Texts.{is_empty}
use Rattle.vx_record.specs.Records.{Record, capped}
use Rattle.vx_record.specs.declared.entry.Entry.TheVariants.{Lease, Take}
use Rattle.vx_record.specs.Copies.{count, joined, spends, all_of, times_spent}
use Rattle.vx_record.specs.Legal.{IsLegal}
use Rattle.vx_record.specs.Lists.{buffered, held}
use Rattle.vx_record.specs.Parcels.{first_copy}
use Rattle.vx_record.specs.Places.Place.{Held}
use Rattle.vx_record.specs.Ready.{can_take, is_attempt_due}
use Rattle.vx_record.specs.SinkBatches.{attempts_with, failures_with, failed_at, wait_after, oldest_held, is_full_batch, is_timed_out, is_last_batch, was_attempted, is_batch_closed, retry_from}
use Rattle.vx_record.specs.Turns.{lease_now}
use Rattle.vx_record.proofs.Alike.{alike, first_there, held_unspent}
use Rattle.vx_record.proofs.Attempted.{attempts_sink, attempted_held}
use Rattle.vx_record.proofs.Counts.{count-append}
use Rattle.vx_record.proofs.Promises.{failed_counts}
use Rattle.vx_record.proofs.Shifting.{stands_at}
use Rattle.vx_instances.proofs.Holding.{held_none_empty, oldest_among}
use Rattle.vx_ready.proofs.Closed.{not_empty}

-- what was never attempted needn't wait
at_once : (h : Record) (i : ℕ) → attempts_with h i (oldest_held h i) ≡ 0 → retry_from h i ≡ 0
at_once h i never =
    let few = failed_counts h i (oldest_held h i) in
    let none : failures_with h i (oldest_held h i) ≡ 0 = omega (arith, never, few) in
    ap (λ k. if k == 0 then 0 else capped (failed_at h i (oldest_held h i) + wait_after h i k)) none

-- a batch that has parcels and isn't closed was never attempted
unclosed_untried : (h : Record) (i now : ℕ) → is_batch_closed h i now ≡ false → 0 < length (held h i) → was_attempted h i ≡ false
unclosed_untried h i now unclosed some = closed_not (is_empty (held h i)) (is_full_batch h i || is_timed_out h i now || is_last_batch h i) (was_attempted h i) (not_empty (held h i) some) unclosed
  where
    closed_not : (e a w : Bool) → e ≡ false → (not e && (a || w)) ≡ false → w ≡ false
    closed_not true a w full off = cc
    closed_not false true w full off = cc
    closed_not false false w full off = off

untried_none : (tried : ℕ) → nat_lt 0 tried ≡ false → tried ≡ 0
untried_none tried off = grind (arith, nat_tests, off)

-- TAKES
some_there : (c : ℕ) (ps : List (List ℕ)) → 0 < count c (joined ps) → 0 < length ps
some_there c [] some = absurd (omega (arith, some))
some_there c (p ∷ ps) some = omega arith

-- what is held behind a take was never attempted
taken_fresh : (h : Record) (i s : ℕ) (copies : List ℕ) (c : ℕ) → IsLegal (Take i s copies ∷ h) → 0 < count c (joined (held (Take i s copies ∷ h) i)) → attempts_with h i c ≡ 0
taken_fresh h i s copies c legal here = elim (cases_lt 0 (attempts_with h i c)) [
  | inl tried ↦ absurd (unless_open tried)
  | inr few ↦ omega (arith, few)
]
  where
    unspent : times_spent h c ≡ 0
    unspent =
        let none = held_unspent (Take i s copies ∷ h) i c legal here in
        let all = count-append c (all_of spends h) [] in
        omega (arith, none, all)

    unless_open : 0 < attempts_with h i c → ⊥
    unless_open tried =
        let was = attempted_held h i c legal.1 tried unspent in
        let same = (alike h i c (oldest_held h i) legal.1 was (first_there c (joined (held h i)) was)).0 in
        let untried : was_attempted h i ≡ false =
        unclosed_untried h i (lease_now h i) (legal.0.row.unclosed (attempts_sink h i c legal.1 tried)) (some_there c (held h i) was) in
        let none : nat_lt 0 (attempts_with h i c) ≡ false = ap (λ n. nat_lt 0 n) same ∙ untried in
        let some = lt-ltb 0 (attempts_with h i c) tried in
        cc

-- so it needn't wait
pub taken_waited : (h new : Record) (i s now : ℕ) (copies : List ℕ) → new ≡ Take i s copies ∷ h → IsLegal new → 0 < length (held new i) → retry_from new i ≤ now
taken_waited h new i s now copies noted legal some = subst (λ (r : Record). IsLegal r → 0 < length (held r i) → retry_from r i ≤ now) (sym noted) taken legal some
  where
    taken : IsLegal (Take i s copies ∷ h) → 0 < length (held (Take i s copies ∷ h) i) → retry_from (Take i s copies ∷ h) i ≤ now
    taken legal some =
        let all : Record = Take i s copies ∷ h in
        let none = at_once all i (taken_fresh h i s copies (oldest_held all i) legal (oldest_among (held all i) (held_none_empty all i) some)) in
        omega (arith, none)

-- LEASES
-- what is leased to take, or to attempt what it holds, waited
pub taking_waited : (h : Record) (i now : ℕ) → can_take h i now ≡ true → 0 < length (held h i) → retry_from h i ≤ now
taking_waited h i now can some =
    let unclosed = (and_parts (not (is_batch_closed h i now)) (not (is_empty (buffered h i))) can).0 in
    let none = at_once h i (untried_none (attempts_with h i (oldest_held h i)) (unclosed_untried h i now (opened (is_batch_closed h i now) unclosed) some)) in
    omega (arith, none)
  where
    opened : (b : Bool) → not b ≡ true → b ≡ false
    opened true e = cc
    opened false e = refl

pub due_waited : (h : Record) (i now : ℕ) → is_attempt_due h i now ≡ true → retry_from h i ≤ now
due_waited h i now due =
    reached (retry_from h i) now (and_parts (is_batch_closed h i now) (nat_le (retry_from h i) now) due).1
  where
    reached : (a b : ℕ) → nat_le a b ≡ true → a ≤ b
    reached a b is = grind (arith, nat_tests, is)

-- and a lease leaves that
pub leased_waited : (h new : Record) (i worker now : ℕ) → new ≡ Lease i worker now 0 ∷ h → IsLegal new → (0 < length (held h i) → retry_from h i ≤ now) →
    0 < length (held new i) → retry_from new i ≤ now
leased_waited h new i worker now noted legal was = subst (λ (r : Record). IsLegal r → 0 < length (held r i) → retry_from r i ≤ now) (sym noted) leased legal
  where
    all : Record
    all = Lease i worker now 0 ∷ h

    leased : IsLegal all → 0 < length (held all i) → retry_from all i ≤ now
    leased legal =
        subst (λ (ps : List (List ℕ)). 0 < length ps → (let c = first_copy (joined ps) in let k = failures_with h i c in if k == 0 then 0 else capped (failed_at h i c + wait_after h i k)) ≤ now)
        (stands_at h (Held i) legal.1 ∙ sym (stands_at all (Held i) legal)) was
