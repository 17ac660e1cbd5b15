-- What a sink holds is of one batch: it attempted each copy as often, and that failed as often and last at the same moment.
use Rattle.std.proofs.Common.{◌≡◌, ℕ, ◌+◌, ◌<◌, Bool, true, false, List, [], ◌∷◌, ◌++◌, refl, sym, ap, subst, ◌∙◌, arith, inl, inr}
use Rattle.std.specs.Prelude.{◌==◌, ◌&&◌, ◌||◌, not, nat_lt, if◌then◌else◌}
use Rattle.std.proofs.lemmas.Bool.{cases_lt, eqb-true, eq-eqb, lt-ltb}
use Rattle.vx_value.specs.Texts.{is_empty}
use Rattle.vx_record.specs.Records.{Record}
use Rattle.vx_record.specs.declared.entry.Entry.TheVariants.{Take, Answer, Attempt, Spent}
use Rattle.vx_record.specs.Copies.{count, contains, joined, spends, all_of, times_spent}
use Rattle.vx_record.specs.Places.{put_out}
use Rattle.vx_record.specs.Places.Place.{Held}
use Rattle.vx_record.specs.Turns.{lease_now}
use Rattle.vx_record.specs.Lists.{shrunk, held}
use Rattle.vx_record.specs.Parcels.{first_copy}
use Rattle.vx_record.specs.SinkBatches.{attempts_with, failures_with, failed_at, is_failed, oldest_held, is_full_batch, is_timed_out, is_last_batch, was_attempted}
use Rattle.vx_record.specs.Legal.{IsLegal}
use Rattle.vx_record.proofs.Counts.{count-append, unless-none, unless-some}
use Rattle.vx_record.proofs.OnePlace.{conserved}
use Rattle.vx_record.proofs.HeldCopies.{held_is_live}
use Rattle.vx_record.proofs.Answers.{count-shrunk}
use Rattle.vx_record.proofs.Attempted.{attempts_sink, attempted_held}
use Rattle.vx_record.proofs.Promises.{failed_counts}
use Rattle.vx_record.proofs.Shifting.{entry_shifts}

-- two copies that an instance attempted alike
abbrev pub IsAlike : Record → ℕ → ℕ → ℕ → Type 0
IsAlike h i c d =
    (attempts_with h i c ≡ attempts_with h i d) × (failures_with h i c ≡ failures_with h i d) × (failed_at h i c ≡ failed_at h i d)

-- what is held is unspent
pub held_unspent : (h : Record) (i c : ℕ) → IsLegal h → 0 < count c (joined (held h i)) → times_spent h c ≡ 0
held_unspent h i c legal here = (held_is_live h (Held i) (joined (held h i)) (conserved h legal) (λ d l. l) c here).2

-- the first of some copies is one of them
pub first_there : (c : ℕ) (cs : List ℕ) → 0 < count c cs → 0 < count (first_copy cs) cs
first_there c [] some = absurd (omega (arith, some))
first_there c (d ∷ cs) some = subst (λ (b : Bool). 0 < (if b then 1 else 0) + count d cs) (sym (eq-eqb d d refl)) (omega arith)

-- what didn't fail failed at no moment
pub unfailed_at : (h : Record) (i c : ℕ) → failures_with h i c ≡ 0 → failed_at h i c ≡ 0
unfailed_at [] i c none = refl
unfailed_at (Attempt j copies bytes answer ∷ h) i c none = go ((j == i) && contains copies c && is_failed answer) none (unfailed_at h i c)
  where
    go : (b : Bool) → failures_with h i c + (if b then 1 else 0) ≡ 0 → (failures_with h i c ≡ 0 → failed_at h i c ≡ 0) →
        (if b then lease_now h i else failed_at h i c) ≡ 0
    go true none rest = absurd (omega (arith, none))
    go false none rest = rest (omega (arith, none))
unfailed_at (e ∷ h) i c none = unfailed_at h i c none

-- what was never attempted is alike
fresh_alike : (h : Record) (i c d : ℕ) → attempts_with h i c ≡ 0 → attempts_with h i d ≡ 0 → IsAlike h i c d
fresh_alike h i c d a b = (a ∙ sym b, few c a ∙ sym (few d b), unfailed_at h i c (few c a) ∙ sym (unfailed_at h i d (few d b)))
  where
    few : (x : ℕ) → attempts_with h i x ≡ 0 → failures_with h i x ≡ 0
    few x none = let most = failed_counts h i x in omega (arith, none, most)

-- TAKES
some_full : (c : ℕ) (ps : List (List ℕ)) → 0 < count c (joined ps) → not (is_empty ps) ≡ true
some_full c [] some = absurd (omega (arith, some))
some_full c (p ∷ ps) some = refl

closed_not : (e a w : Bool) → e ≡ true → (e && (a || w)) ≡ false → w ≡ false
closed_not e a w full off = grind arith

-- a batch to which one is added was never attempted
taken_untried : (h : Record) (i s : ℕ) (copies : List ℕ) (c : ℕ) → IsLegal (Take i s copies ∷ h) →
    ((d e : ℕ) → 0 < count d (joined (held h i)) → 0 < count e (joined (held h i)) → IsAlike h i d e) →
    0 < count c (joined (held (Take i s copies ∷ h) i)) → attempts_with h i c ≡ 0
taken_untried h i s copies c legal alike_there here = elim (cases_lt 0 (attempts_with h i c)) [
  | inl tried ↦ absurd (unless_open tried)
  | inr few ↦ omega (arith, few)
]
  where
    unspent : times_spent h c ≡ 0
    unspent =
        let none = held_unspent (Take i s copies ∷ h) i c legal here in
        let all = count-append c (all_of spends h) [] in
        omega (arith, none, all)

    unless_open : 0 < attempts_with h i c → ⊥
    unless_open tried =
        let was = attempted_held h i c legal.1 tried unspent in
        let same = (alike_there c (oldest_held h i) was (first_there c (joined (held h i)) was)).0 in
        let untried : was_attempted h i ≡ false =
        closed_not (not (is_empty (held h i))) (is_full_batch h i || is_timed_out h i (lease_now h i) || is_last_batch h i) (was_attempted h i)
        (some_full c (held h i) was) (legal.0.row.unclosed (attempts_sink h i c legal.1 tried)) in
        let none : nat_lt 0 (attempts_with h i c) ≡ false = ap (λ n. nat_lt 0 n) same ∙ untried in
        let some = lt-ltb 0 (attempts_with h i c) tried in
        cc

-- ALL ENTRIES
-- what is left among copies was there
fewer : (c : ℕ) (gone : List ℕ) (ps : List (List ℕ)) → 0 < count c (joined (shrunk gone ps)) → 0 < count c (joined ps)
fewer c gone ps some =
    let all = count-shrunk c gone ps in
    elim (cases_lt 0 (count c gone)) [
      | inl left ↦ let none = unless-some (count c gone) (count c (joined ps)) left in absurd (omega (arith, some, all, none))
      | inr few ↦ let same = unless-none (count c gone) (count c (joined ps)) (omega (arith, few)) in omega (arith, some, all, same)
    ]

fewer_where : (b : Bool) (c : ℕ) (gone : List ℕ) (ps : List (List ℕ)) → 0 < count c (joined (if b then shrunk gone ps else ps)) → 0 < count c (joined ps)
fewer_where true c gone ps some = fewer c gone ps some
fewer_where false c gone ps some = some

-- an attempt of both, or of neither
both_more : (n m k l x y now : ℕ) (p q f : Bool) → n ≡ m → k ≡ l → x ≡ y → p ≡ q →
    (n + (if p then 1 else 0) ≡ m + (if q then 1 else 0)) × (k + (if p && f then 1 else 0) ≡ l + (if q && f then 1 else 0))
    × ((if p && f then now else x) ≡ (if q && f then now else y))
both_more n m k l x y now p q f a b c d = rw (a, b, c, d) (refl, refl, refl)

pub alike : (h : Record) (i c d : ℕ) → IsLegal h → 0 < count c (joined (held h i)) → 0 < count d (joined (held h i)) → IsAlike h i c d
alike [] i c d legal a b = absurd (omega (arith, a))
alike (Take j s copies ∷ h) i c d legal a b = go (j == i) refl (λ x y. alike h i x y legal.1)
  where
    go : (t : Bool) → (j == i) ≡ t → ((x y : ℕ) → 0 < count x (joined (held h i)) → 0 < count y (joined (held h i)) → IsAlike h i x y) → IsAlike h i c d
    go true is before =
        let same : j ≡ i = eqb-true j i is in
        fresh_alike h i c d (untried same before c a) (untried same before d b)
      where
        untried : j ≡ i → ((x y : ℕ) → 0 < count x (joined (held h i)) → 0 < count y (joined (held h i)) → IsAlike h i x y) →
            (x : ℕ) → 0 < count x (joined (held (Take j s copies ∷ h) i)) → attempts_with h i x ≡ 0
        untried same before x l =
            taken_untried h i s copies x (subst (λ (k : ℕ). IsLegal (Take k s copies ∷ h)) same legal) before
            (subst (λ (k : ℕ). 0 < count x (joined (held (Take k s copies ∷ h) i))) same l)
    go false is before = before c d (was c a) (was d b)
      where
        was : (x : ℕ) → 0 < count x (joined (held (Take j s copies ∷ h) i)) → 0 < count x (joined (held h i))
        was x l =
            subst (λ (ps : List (List ℕ)). 0 < count x (joined ps))
            (entry_shifts h (Take j s copies) (Held i) legal ∙ ap (λ (t : Bool). if t then held h i ++ copies ∷ [] else held h i) is) l
alike (Attempt j copies bytes answer ∷ h) i c d legal a b =
    let before = alike h i c d legal.1 (was c a) (was d b) in
    both_more (attempts_with h i c) (attempts_with h i d) (failures_with h i c) (failures_with h i d) (failed_at h i c) (failed_at h i d) (lease_now h i)
    ((j == i) && contains copies c) ((j == i) && contains copies d) (is_failed answer) before.0 before.1 before.2 (both (j == i) refl)
  where
    was : (x : ℕ) → 0 < count x (joined (held (Attempt j copies bytes answer ∷ h) i)) → 0 < count x (joined (held h i))
    was x l = subst (λ (ps : List (List ℕ)). 0 < count x (joined ps)) (entry_shifts h (Attempt j copies bytes answer) (Held i) legal) l

    there : (j == i) ≡ true → (x : ℕ) → 0 < count x (joined (held (Attempt j copies bytes answer ∷ h) i)) → contains copies x ≡ true
    there is x l =
        lt-ltb 0 (count x copies)
        (subst (λ (cs : List ℕ). 0 < count x cs) (sym legal.0.row.all) (subst (λ (k : ℕ). 0 < count x (joined (held h k))) (sym (eqb-true j i is)) (was x l)))

    both : (t : Bool) → (j == i) ≡ t → (t && contains copies c) ≡ (t && contains copies d)
    both true is = there is c a ∙ sym (there is d b)
    both false is = refl
alike (Answer j made discarded kept ∷ h) i c d legal a b = alike h i c d legal.1 (was c a) (was d b)
  where
    was : (x : ℕ) → 0 < count x (joined (held (Answer j made discarded kept ∷ h) i)) → 0 < count x (joined (held h i))
    was x l =
        fewer_where (j == i) x (put_out made) (held h i)
        (subst (λ (ps : List (List ℕ)). 0 < count x (joined ps)) (entry_shifts h (Answer j made discarded kept) (Held i) legal) l)
alike (Spent j g outcome ∷ h) i c d legal a b = alike h i c d legal.1 (was c a) (was d b)
  where
    was : (x : ℕ) → 0 < count x (joined (held (Spent j g outcome ∷ h) i)) → 0 < count x (joined (held h i))
    was x l =
        fewer_where (j == i) x (g ∷ []) (held h i)
        (subst (λ (ps : List (List ℕ)). 0 < count x (joined ps)) (entry_shifts h (Spent j g outcome) (Held i) legal) l)
alike (e ∷ h) i c d legal a b =
    alike h i c d legal.1 (subst (λ (ps : List (List ℕ)). 0 < count c (joined ps)) (entry_shifts h e (Held i) legal) a)
    (subst (λ (ps : List (List ℕ)). 0 < count d (joined ps)) (entry_shifts h e (Held i) legal) b)
