-- What an instance holds of which no attempt decided failed each time, and fewer times than may.
use Rattle.std.proofs.Common.{◌≡◌, ℕ, zero, suc, ◌+◌, ◌<◌, ◌≤◌, Bool, true, false, List, [], ◌∷◌, length, Some, refl, sym, ap, subst, ◌∙◌, arith, inl, inr}
use Rattle.std.specs.Prelude.{◌⊎◌, ◌==◌, ◌&&◌, ◌||◌, if◌then◌else◌}
use Rattle.std.specs.List.{list_any}
use Rattle.std.proofs.lemmas.Bool.{cases_lt, eqb-true}
use Rattle.std.proofs.lemmas.Bool.Decides.{nat_tests}
use Rattle.vx_ends.specs.declared.trouble.Reply.{Reply}
use Rattle.vx_ends.specs.declared.trouble.Reply.TheVariants as reply
use Rattle.vx_record.specs.Records.{Record}
use Rattle.vx_record.specs.declared.entry.Entry.{Entry}
use Rattle.vx_record.specs.declared.entry.Entry.TheVariants.{Install, Lease, Home, Attempt}
use Rattle.vx_record.specs.Copies.{count, contains, joined, spends, all_of, times_spent}
use Rattle.vx_record.specs.Places.{Place}
use Rattle.vx_record.specs.Lists.{held, times_among}
use Rattle.vx_record.specs.Turns.{is_out, since_lease, is_attempt_of}
use Rattle.vx_record.specs.SinkBatches.{attempts_with, failures_with, attempts_allowed, is_failed}
use Rattle.vx_record.specs.Spending.{WasAnswered, last_attempted, last_reply}
use Rattle.vx_record.specs.Parcels.{first_copy}
use Rattle.vx_record.specs.Owing.{is_decided, unspent_of, decided, owes_birth, owes_spends_in, owes_discards, owes_answer, owes}
use Rattle.vx_record.specs.Legal.{IsLegal}
use Rattle.vx_record.proofs.Counts.{count-append}
use Rattle.vx_record.specs.Promises.{HeldFailed, SpentFailed, LeasedSpent}
use Rattle.vx_record.proofs.Attempted.{attempted_held}
use Rattle.vx_record.proofs.Promises.{or_left, or_right, was_out, failed_counts}
use Rattle.vx_record.proofs.Alike.{held_unspent, first_there, alike}

-- what owes nothing owes no spend
pub spends_settled : (h : Record) (i : ℕ) → owes h i ≡ false → owes_spends_in h h i ≡ false
spends_settled h i settled =
    or_right (owes_birth h i) (owes_spends_in h h i)
    (or_left (owes_birth h i || owes_spends_in h h i) (owes_discards h i) (or_left (owes_birth h i || owes_spends_in h h i || owes_discards h i) (owes_answer h i) settled))

-- where none of some copies is unspent each is spent
each_spent : (whole : Record) (copies : List ℕ) (c : ℕ) → unspent_of whole copies ≡ false → 0 < count c copies → 0 < times_spent whole c
each_spent whole [] c none some = absurd (omega (arith, some))
each_spent whole (x ∷ xs) c none some = go (x == c) refl some (each_spent whole xs c (or_right (times_spent whole x == 0) (unspent_of whole xs) none))
  where
    go : (b : Bool) → (x == c) ≡ b → 0 < (if b then 1 else 0) + count c xs → (0 < count c xs → 0 < times_spent whole c) → 0 < times_spent whole c
    go true e l rest =
        let same : x ≡ c = grind (arith, nat_tests) in
        let spent : (times_spent whole x == 0) ≡ false = or_left (times_spent whole x == 0) (unspent_of whole xs) none in
        let some_of : 0 < times_spent whole x = grind (arith, nat_tests, spent) in
        subst (λ (k : ℕ). 0 < times_spent whole k) same some_of
    go false e l rest = rest (omega (arith, l))

has : (c : ℕ) (copies : List ℕ) → contains copies c ≡ true → 0 < count c copies
has c copies is = grind (arith, nat_tests, is)

all_spent : (whole : Record) (ps : List (List ℕ)) (c : ℕ) → list_any (unspent_of whole) ps ≡ false → 0 < count c (joined ps) → 0 < times_spent whole c
all_spent whole [] c none some = absurd (omega (arith, some))
all_spent whole (p ∷ ps) c none some =
    let all = count-append c p (joined ps) in
    elim (cases_lt 0 (count c p)) [
      | inl here ↦ each_spent whole p c (or_left (unspent_of whole p) (list_any (unspent_of whole) ps) none) here
      | inr few ↦ all_spent whole ps c (or_right (unspent_of whole p) (list_any (unspent_of whole) ps) none) (omega (arith, some, all, few))
    ]

-- an instance that owes no spend has spent all of which an attempt decided
pub owed_spent : (h whole : Record) (i c : ℕ) → owes_spends_in h whole i ≡ false → 0 < count c (joined (decided h i)) → 0 < times_spent whole c
owed_spent h whole i c none some = all_spent whole (decided h i) c none some

-- what is spent stays so
pub spent_on : (h : Record) (e : Entry) (c : ℕ) → 0 < times_spent h c → 0 < times_spent (e ∷ h) c
spent_on h e c some = let all = count-append c (all_of spends h) (spends e) in omega (arith, some, all)

not_decided : (t d : Bool) (c : ℕ) (copies : List ℕ) (ps : List (List ℕ)) → t ≡ false → 0 < count c (joined (if t && d then copies ∷ ps else ps)) → 0 < count c (joined ps)
not_decided true d c copies ps e l = cc
not_decided false d c copies ps e l = l

-- so has one that is out and made no attempt yet
pub untried_spent : (h : Record) (i c : ℕ) → IsLegal h → is_out h i ≡ true → list_any (is_attempt_of i) (since_lease h i) ≡ false → 0 < count c (joined (decided h i)) → 0 < times_spent h c
untried_spent [] i c legal out none some = cc
untried_spent (Lease j worker now polls ∷ h) i c legal out none some = spent_on h (Lease j worker now polls) c (go (j == i) refl out none (untried_spent h i c legal.1))
  where
    go : (b : Bool) → (j == i) ≡ b → (if b then true else is_out h i) ≡ true → list_any (is_attempt_of i) (if b then [] else Lease j worker now polls ∷ since_lease h i) ≡ false →
        (is_out h i ≡ true → list_any (is_attempt_of i) (since_lease h i) ≡ false → 0 < count c (joined (decided h i)) → 0 < times_spent h c) → 0 < times_spent h c
    go true e at un rest =
        let same : j ≡ i = grind (arith, nat_tests) in
        owed_spent h h i c (subst (λ (k : ℕ). owes_spends_in h h k ≡ false) same (spends_settled h j legal.0.row.settled)) some
    go false e at un rest = rest at un some
untried_spent (Home j ∷ h) i c legal out none some = spent_on h (Home j) c (untried_spent h i c legal.1 (was_out (j == i) (is_out h i) out) none some)
untried_spent (Attempt j copies bytes answer ∷ h) i c legal out none some =
    spent_on h (Attempt j copies bytes answer) c
    (untried_spent h i c legal.1 out (or_right (j == i) _ none) (not_decided (j == i) (is_decided answer (failures_with h i (first_copy copies) + 1) (attempts_allowed h i)) c copies (decided h i) (or_left (j == i) _ none) some))
untried_spent (e ∷ h) i c legal out none some = spent_on h e c (untried_spent h i c legal.1 out none some)

pub among_length : (p : Place) (ps : List Place) → 0 < times_among p ps → 0 < length ps
among_length p [] some = absurd (omega (arith, some))
among_length p (q ∷ rest) some = omega arith

pub zero_of : (n m : ℕ) → (0 < n → 0 < m) → m ≡ 0 → n ≡ 0
zero_of zero m more none = refl
zero_of (suc n) m more none = let l = more (omega arith) in absurd (omega (arith, l, none))

pub unspent_before : (h : Record) (e : Entry) (c : ℕ) → times_spent (e ∷ h) c ≡ 0 → times_spent h c ≡ 0
unspent_before h e c none = let all = count-append c (all_of spends h) (spends e) in omega (arith, none, all)

-- RETRIES
-- each attempt with a copy failed, and fewer than may
abbrev pub IsRetried : Record → ℕ → ℕ → Type 0
IsRetried h i c = (attempts_with h i c ≡ failures_with h i c) × (failures_with h i c < attempts_allowed h i)

-- an attempt that doesn't decide failed, and is not the last
undecided : (answer : Reply) (failures allowed : ℕ) → is_decided answer failures allowed ≡ false → (is_failed answer ≡ true) × (failures < allowed)
undecided reply.Ok failures allowed off = cc
undecided reply.Refused failures allowed off = cc
undecided reply.Failed failures allowed off = (refl, grind (arith, nat_tests, off))

still_decided : (b : Bool) (c : ℕ) (copies : List ℕ) (ps : List (List ℕ)) → 0 < count c (joined ps) → 0 < count c (joined (if b then copies ∷ ps else ps))
still_decided true c copies ps l = let all = count-append c copies (joined ps) in omega (arith, l, all)
still_decided false c copies ps l = l

-- of an unspent copy an attempt decided, or it is such
pub decided_or_retried : (h : Record) (i c : ℕ) → IsLegal h → times_spent h c ≡ 0 → (0 < count c (joined (decided h i))) ⊎ IsRetried h i c
decided_or_retried [] i c legal none = inr (refl, omega arith)
decided_or_retried (Install version plan once instances now ∷ h) i c legal none =
    let a = ap (λ (k : Record). attempts_with k i c) legal.0.row.first in
    let b = ap (λ (k : Record). failures_with k i c) legal.0.row.first in
    inr (a ∙ sym b, omega (arith, b))
decided_or_retried (Attempt j copies bytes answer ∷ h) i c legal none =
    go (j == i) (contains copies c) (is_decided answer (failures_with h i (first_copy copies) + 1) (attempts_allowed h i)) refl refl refl
    (decided_or_retried h i c legal.1 before)
  where
    before : times_spent h c ≡ 0
    before = unspent_before h (Attempt j copies bytes answer) c none

    -- what is attempted failed as often as its first copy
    as_first : (j == i) ≡ true → 0 < count c copies → failures_with h i c ≡ failures_with h i (first_copy copies)
    as_first is l =
        let same : j ≡ i = eqb-true j i is in
        let all : copies ≡ joined (held h i) = subst (λ (k : ℕ). copies ≡ joined (held h k)) same legal.0.row.all in
        (alike h i c (first_copy copies) legal.1 (subst (λ (cs : List ℕ). 0 < count c cs) all l)
        (subst (λ (cs : List ℕ). 0 < count (first_copy copies) cs) all (first_there c copies l))).1

    go : (t b d : Bool) → (j == i) ≡ t → contains copies c ≡ b → is_decided answer (failures_with h i (first_copy copies) + 1) (attempts_allowed h i) ≡ d →
        (0 < count c (joined (decided h i))) ⊎ IsRetried h i c →
        (0 < count c (joined (if t && d then copies ∷ decided h i else decided h i)))
        ⊎ ((attempts_with h i c + (if t && b then 1 else 0) ≡ failures_with h i c + (if t && b && is_failed answer then 1 else 0))
        × (failures_with h i c + (if t && b && is_failed answer then 1 else 0) < attempts_allowed h i))
    go t b d there with_it is (inl was) = inl (still_decided (t && d) c copies (decided h i) was)
    go true true true there with_it is (inr was) =
        let here = has c copies with_it in
        let all = count-append c copies (joined (decided h i)) in
        inl (omega (arith, here, all))
    go true true false there with_it is (inr was) =
        let off = undecided answer (failures_with h i (first_copy copies) + 1) (attempts_allowed h i) is in
        let first = as_first there (has c copies with_it) in
        let few = off.1 in
        inr (subst (λ (f : Bool). (attempts_with h i c + 1 ≡ failures_with h i c + (if f then 1 else 0)) × (failures_with h i c + (if f then 1 else 0) < attempts_allowed h i))
        (sym off.0) (ap (λ n. n + 1) was.0, omega (arith, first, few)))
    go true false d there with_it is (inr was) = let few = was.1 in inr (ap (λ n. n + 0) was.0, omega (arith, few))
    go false b d there with_it is (inr was) = let few = was.1 in inr (ap (λ n. n + 0) was.0, omega (arith, few))
decided_or_retried (e ∷ h) i c legal none = decided_or_retried h i c legal.1 (unspent_before h e c none)

-- so what is held is such, where all of which an attempt decided is spent
retried_by : (h : Record) (i c : ℕ) → IsLegal h → 0 < count c (joined (held h i)) → (0 < count c (joined (decided h i)) → 0 < times_spent h c) → IsRetried h i c
retried_by h i c legal here spends = go (decided_or_retried h i c legal unspent)
  where
    unspent : times_spent h c ≡ 0
    unspent = held_unspent h i c legal here

    go : (0 < count c (joined (decided h i))) ⊎ IsRetried h i c → IsRetried h i c
    go (inl done) = let spent = spends done in absurd (omega (arith, spent, unspent))
    go (inr was) = was

-- what an instance holds that owes no spend
pub held_retried : (h : Record) (i c : ℕ) → owes_spends_in h h i ≡ false → IsLegal h → 0 < count c (joined (held h i)) → IsRetried h i c
held_retried h i c settled legal here = retried_by h i c legal here (owed_spent h h i c settled)

-- and one that is out and made no attempt yet
pub out_retried : (h : Record) (i c : ℕ) → is_out h i ≡ true → list_any (is_attempt_of i) (since_lease h i) ≡ false → IsLegal h →
    0 < count c (joined (held h i)) → IsRetried h i c
out_retried h i c out none legal here = retried_by h i c legal here (untried_spent h i c legal out none)

pub held_failed : HeldFailed
held_failed h i copies bytes answer c legal row here = out_retried h i c row.out row.once legal here

-- FAILURES
both_true : (a b c : Bool) → 0 < (if a && b && c then 1 else 0) → (b ≡ true) × (c ≡ true)
both_true a b c l = grind arith

failed_answer : (answer : Reply) → is_failed answer ≡ true → answer ≡ reply.Failed
failed_answer reply.Ok is = cc
failed_answer reply.Failed is = refl
failed_answer reply.Refused is = cc

-- a copy that failed as often as may and isn't spent was in the last attempt of the instance, and that failed
last_failed : (h : Record) (i c : ℕ) → IsLegal h → times_spent h c ≡ 0 → attempts_allowed h i ≤ failures_with h i c → WasAnswered h i c reply.Failed
last_failed [] i c legal none many = absurd (omega (arith, many))
last_failed (Install version plan once instances now ∷ h) i c legal none many =
    let zero_failed = ap (λ (k : Record). failures_with k i c) legal.0.row.first in absurd (omega (arith, many, zero_failed))
last_failed (Attempt j copies bytes answer ∷ h) i c legal none many = go (j == i) refl many (last_failed h i c legal.1 before)
  where
    before : times_spent h c ≡ 0
    before = unspent_before h (Attempt j copies bytes answer) c none

    few : j ≡ i → failures_with h i c < attempts_allowed h i
    few same = elim (cases_lt 0 (attempts_with h i c)) [
      | inl tried ↦
          (out_retried h i c (subst (λ (k : ℕ). is_out h k ≡ true) same legal.0.row.out)
          (subst (λ (k : ℕ). list_any (is_attempt_of k) (since_lease h k) ≡ false) same legal.0.row.once) legal.1
          (attempted_held h i c legal.1 tried before)).1
      | inr untried ↦ let most = failed_counts h i c in omega (arith, untried, most)
    ]

    answered : (b : Bool) → b ≡ true → 0 < (if b && contains copies c && is_failed answer then 1 else 0) → (0 < count c (if b then copies else last_attempted h i)) × ((if b then Some answer else last_reply h i) ≡ Some reply.Failed)
    answered true on l = let two = both_true true (contains copies c) (is_failed answer) l in (has c copies two.0, ap (λ (a : Reply). Some a) (failed_answer answer two.1))
    answered false on l = cc

    go : (b : Bool) → (j == i) ≡ b → attempts_allowed h i ≤ failures_with h i c + (if b && contains copies c && is_failed answer then 1 else 0) →
        (attempts_allowed h i ≤ failures_with h i c → WasAnswered h i c reply.Failed) → WasAnswered (Attempt j copies bytes answer ∷ h) i c reply.Failed
    go true e l rest =
        let fewer = few (eqb-true j i e) in
        let here = answered true refl (omega (arith, l, fewer)) in
        record {
          had = subst (λ (b : Bool). 0 < count c (if b then copies else last_attempted h i)) (sym e) here.0;
          answered = subst (λ (b : Bool). (if b then Some answer else last_reply h i) ≡ Some reply.Failed) (sym e) here.1;
        }
    go false e l rest =
        let was = rest (omega (arith, l)) in
        record {
          had = subst (λ (b : Bool). 0 < count c (if b then copies else last_attempted h i)) (sym e) was.had;
          answered = subst (λ (b : Bool). (if b then Some answer else last_reply h i) ≡ Some reply.Failed) (sym e) was.answered;
        }
last_failed (e ∷ h) i c legal none many =
    let was = last_failed h i c legal.1 (unspent_before h e c none) many in
    record { had = was.had; answered = was.answered }

pub spent_failed : SpentFailed
spent_failed h i c legal row = last_failed h i c legal row.live.2 row.cause

-- what is leased has spent all of which an attempt decided
pub leased_spent : LeasedSpent
leased_spent h i worker now polls c row some = owed_spent h h i c (spends_settled h i row.settled) some
