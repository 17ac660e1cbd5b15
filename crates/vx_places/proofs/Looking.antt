-- What is said of an instance's places, by its row: of the children that wait, and the oldest for a target, and of all of them.
use Rattle.std.proofs.Common.{◌≡◌, ℕ, zero, suc, ◌+◌, ◌<◌, Bool, true, false, List, [], ◌∷◌, ◌++◌, length, get_or, refl, sym, ap, ◌∙◌, arith, Option, inl, inr, Some, None}
use Rattle.std.specs.Prelude.{◌≢◌, ◌==◌, if◌then◌else◌, slice_set, remove, IsSomeAnd, IfSome, ◌↔◌}
use Rattle.std.specs.List.{slice_get}
use Rattle.std.specs.declared.collections.VecDeque.{VecDeque}
use Rattle.std.specs.VecDeque.{deque_with_item}
use Rattle.std.proofs.lemmas.Bool.{cases_eq, eq-eqb}
use Rattle.std.proofs.lemmas.Bool.Decides.{nat_tests}
use Rattle.std.proofs.lemmas.List.{set-get_or}
use Rattle.std.proofs.lemmas.Option.{slice_get-get_or}
use native.Mathlib.Nat.{ℕ_set}
use native.Mathlib.Bridge.{le_prop}
use Rattle.vx_value.specs.Texts.{is_empty}
use Rattle.vx_value.specs.declared.event.Event.{Event}
use Rattle.vx_ledger.specs.Copies.{Copy}
use Rattle.vx_ledger.specs.declared.parcel.Parcel.{Parcel}
use Rattle.vx_ledger.specs.declared.child.Child.{Child}
use Rattle.vx_record.specs.Places.{Place, owner, same_place}
use Rattle.vx_record.specs.Places.Place.{Outputs, Waiting, Contents, Held}
use Rattle.vx_places.specs.Numbers.{for_target}
use Rattle.vx_places.specs.Calls.{LosesCopy, NothingToLose, NoneBefore, left_of, NoneWaits, IsOldestFor, IsLent, waiting_target}
use Rattle.vx_places.specs.declared.row.Row.{Row}
use Rattle.vx_places.specs.Views.{row_at, held_items, here_if, parcels_here}
use Rattle.vx_places.specs.Looks.{HasSent, HasEmptyBuffer, ManyWait, IsBare, AreBare, IsClear, AreEnded}
use Rattle.vx_places.specs.Laws.{EndedWhere}
use Rattle.vx_places.proofs.Written.{same_but_ok, has, is_there, one_some}

-- THE OLDEST FOR A TARGET
other_test : (m n : ℕ) → m ≢ n → (m == n) ≡ false
other_test m n e = grind (arith, nat_tests)

-- the child at a place is for a target
abbrev pub IsFor : ℕ → List Child → ℕ → Type 0
IsFor t cs k = IsSomeAnd (slice_get cs k) (λ c. c.target ≡ t)

-- a child is the oldest for a target where it is for that, and none before it is
pub oldest_of : (t k : ℕ) (cs : List Child) → IsFor t cs k → ((j : ℕ) → j < k → IsFor t cs j → ⊥) → NoneBefore t k cs
oldest_of t k [] is none = is
oldest_of t zero (c ∷ cs) is none = is
oldest_of t (suc k) (c ∷ cs) is none = (none zero (omega arith), oldest_of t k cs is (λ j l. none (suc j) (omega (arith, l))))

pub oldest_for : (t k : ℕ) (cs : List Child) → NoneBefore t k cs → IsFor t cs k
oldest_for t k [] first = first
oldest_for t zero (c ∷ cs) first = first
oldest_for t (suc k) (c ∷ cs) first = oldest_for t k cs first.1

pub none_before : (t k j : ℕ) (cs : List Child) → NoneBefore t k cs → j < k → IsFor t cs j → ⊥
none_before t k j [] first l is = first
none_before t zero j (c ∷ cs) first l is = omega arith
none_before t (suc k) zero (c ∷ cs) first l is = first.0 is
none_before t (suc k) (suc j) (c ∷ cs) first l is = none_before t k j cs first.1 (omega arith) is

pub child_there : (t k : ℕ) (cs : List Child) → NoneBefore t k cs → k < length cs
child_there t k cs first = is_there (λ (c : Child). c.target ≡ t) cs k (oldest_for t k cs first)

pub no_first : (cs : List Child) → ((t : ℕ) → NoneBefore t 0 cs → ⊥) → cs ≡ []
no_first [] none = refl
no_first (c ∷ cs) none = absurd (none c.target refl)

-- none of the first children is for a target where none before the last of them is, nor that one
pub none_more : (t k : ℕ) (cs : List Child) (c : Child) → k < length cs → c ≡ get_or cs k c → c.target ≢ t → ((j : ℕ) → j < k → IsFor t cs j → ⊥) →
    (j : ℕ) → j < k + 1 → IsFor t cs j → ⊥
none_more t k cs c l at other none j below is =
    elim (cases_eq j k) [
      | inl same ↦ other (has (λ (d : Child). d.target ≡ t) cs k c l at (rw same at is))
      | inr apart ↦ none j (omega (arith, apart, below)) is
    ]

-- parcels wait for a target where a child at some place is for it, and none where none is
pub some_for : (t k : ℕ) (cs : List Child) → IsFor t cs k → 0 < length (for_target t cs)
some_for t k [] is = absurd is
some_for t zero (c ∷ cs) is = rw (eq-eqb c.target t is) (omega arith)
some_for t (suc k) (c ∷ cs) is = let later = some_for t k cs is in grind (arith, later)

pub none_for_it : (t : ℕ) (cs : List Child) → ((k : ℕ) → IsFor t cs k → ⊥) → for_target t cs ≡ []
none_for_it t [] none = refl
none_for_it t (c ∷ cs) none = rw (other_test c.target t (none zero)) (none_for_it t cs (λ k. none (suc k)))

-- A CHILD IS WRITTEN, OR TAKEN OUT
remove_set : (cs : List Child) (k : ℕ) (c : Child) → remove (slice_set cs k c) k ≡ remove cs k
remove_set [] k c = refl
remove_set (d ∷ cs) zero c = refl
remove_set (d ∷ cs) (suc k) c = ap (λ (ds : List Child). d ∷ ds) (remove_set cs k c)

-- where it is the oldest for its target, its parcel is the first of those for that
first_written : (t k : ℕ) (cs : List Child) (c : Child) → NoneBefore t k cs → c.target ≡ t → for_target t (slice_set cs k c) ≡ c.parcel ∷ for_target t (remove cs k)
first_written t k [] c first is = absurd first
first_written t zero (d ∷ cs) c first is = rw (eq-eqb c.target t is)
first_written t (suc k) (d ∷ cs) c first is = rw (other_test d.target t first.0) (first_written t k cs c first.1 is)

-- and of another target none is missed
other_written : (t u k : ℕ) (cs : List Child) (c : Child) → k < length cs → c.target ≡ t → (t == u) ≡ false → for_target u (slice_set cs k c) ≡ for_target u (remove cs k)
other_written t u k [] c l is other = absurd (omega arith)
other_written t u zero (d ∷ cs) c l is other = rw (is, other)
other_written t u (suc k) (d ∷ cs) c l is other =
    ap (λ ps. if d.target == u then d.parcel ∷ ps else ps) (other_written t u k cs c (omega arith) is other)

-- a child with other copies
abbrev pub with_copies : Child → List Copy → Child
with_copies c copies = record { target = c.target; parcel = record { event = c.parcel.event; finalizers = copies } }

-- where nothing was taken of it, nothing has changed
pub child_still : {Z : Type 0} (q : VecDeque Child Z) (k : ℕ) (c : Child) (left : List Copy) → c ≡ get_or q.items k c → left ≡ c.parcel.finalizers → deque_with_item q k (with_copies c left) ≡ q
child_still q k c left at same =
    same_but_ok (λ (cs : List Child) ok. record q { items = cs; ok = ok }) (λ cs. hlevel (le_prop, ℕ_set)) (deque_with_item q k (with_copies c left)).ok q.ok
    (ap (slice_set q.items k) (ap (with_copies c) same ∙ at) ∙ set-get_or q.items k c)

pub left_filled : (event : Event) (left : List Copy) (rest : List Parcel) → left ≢ [] → record { event = event; finalizers = left } ∷ rest ≡ left_of event left rest
left_filled event [] rest filled = absurd (filled refl)
left_filled event (c ∷ cs) rest filled = refl

-- a test for none tells whether there is none
observed_empty : (b : Bool) (xs : List Copy) → (b ≡ true) ↔ (xs ≡ []) → b ≡ is_empty xs
observed_empty b [] is = is.1 refl
observed_empty true (x ∷ xs) is = let none = is.0 refl in absurd (cc)
observed_empty false (x ∷ xs) is = refl

module _ (t k : ℕ) (cs : List Child) (c : Child) (first : NoneBefore t k cs) (at : c ≡ get_or cs k c) where
  is_for : c.target ≡ t
  is_for = has (λ (d : Child). d.target ≡ t) cs k c (child_there t k cs first) at (oldest_for t k cs first)

  still : cs ≡ slice_set cs k c
  still = sym (ap (slice_set cs k) at ∙ set-get_or cs k c)

  pub oldest_is : for_target t cs ≡ c.parcel ∷ for_target t (remove cs k)
  oldest_is = ap (for_target t) still ∙ first_written t k cs c first is_for

  pub others_stay : (u : ℕ) → (t == u) ≡ false → for_target u (remove cs k) ≡ for_target u cs
  others_stay u other = sym (ap (for_target u) still ∙ other_written t u k cs c (child_there t k cs first) is_for other)

  -- it has fewer copies, or is gone with its only one
  pub child_lost : (left : List Copy) (copy : Copy) (last : Bool) (new : List Parcel) → c.parcel.finalizers ≡ left ++ copy ∷ [] → (last ≡ true) ↔ (left ≡ []) →
      new ≡ left_of c.parcel.event left (for_target t (remove cs k)) → LosesCopy copy last (for_target t cs) new
  child_lost left copy last new are none now = record {
    event = c.parcel.event;
    left = left;
    rest = for_target t (remove cs k);
    was = oldest_is ∙ ap (λ (copies : List Copy). record { event = c.parcel.event; finalizers = copies } ∷ for_target t (remove cs k)) are;
    now = now;
    alone = observed_empty last left none;
  }

  module _ (left : List Copy) where
    abbrev fewer : List Child
    fewer = slice_set cs k (with_copies c left)

    pub lost_is : left ≢ [] → for_target t fewer ≡ left_of c.parcel.event left (for_target t (remove cs k))
    lost_is some = first_written t k cs (with_copies c left) first is_for ∙ left_filled c.parcel.event left (for_target t (remove cs k)) some

    pub gone_is : left ≡ [] → for_target t (remove fewer k) ≡ left_of c.parcel.event left (for_target t (remove cs k))
    gone_is none = ap (for_target t) (remove_set cs k (with_copies c left)) ∙ sym (ap (λ (copies : List Copy). left_of c.parcel.event copies (for_target t (remove cs k))) none)

    pub others_lost : (u : ℕ) → (t == u) ≡ false → for_target u fewer ≡ for_target u cs
    others_lost u other = other_written t u k cs (with_copies c left) (child_there t k cs first) is_for other ∙ others_stay u other

    pub others_gone : (u : ℕ) → (t == u) ≡ false → for_target u (remove fewer k) ≡ for_target u cs
    others_gone u other = ap (for_target u) (remove_set cs k (with_copies c left)) ∙ others_stay u other

  pub nothing_less : c.parcel.finalizers ≡ [] → NothingToLose (for_target t cs)
  nothing_less none = rw oldest_is none

-- NONE WAITS
-- a test of their number says whether there is one
pub no_children : (cs : List Child) (r : Bool) (n : ℕ) → n ≡ length cs → r ≡ (n == 0) → (r ≡ true) ↔ (cs ≡ [])
no_children [] r n len is = grind (arith, nat_tests, len, is)
no_children (c ∷ cs) r n len is = grind (arith, nat_tests, len, is)

-- where none is for any target, there is none
pub none_for : (cs : List Child) → ((t : ℕ) → for_target t cs ≡ []) → cs ≡ []
none_for [] none = refl
none_for (c ∷ cs) none = let here = rw (eq-eqb c.target c.target refl) at (none c.target) in cc

pub none_waits_for_all : (rows : List Row) (i : ℕ) → i < length rows → ((t : ℕ) → parcels_here rows (Waiting i t) ≡ Some []) → NoneWaits rows i
none_waits_for_all [] i l all = absurd (omega arith)
none_waits_for_all (r ∷ rs) i l all =
    let row = slice_get-get_or (r ∷ rs) i r l in
    rw row (none_for (get_or (r ∷ rs) i r).waiting.items (λ t. one_some _ _ (rw row at (all t))))

-- and where there is none, none is for a target
pub none_waits_for : (rows : List Row) (i t : ℕ) → NoneWaits rows i → parcels_here rows (Waiting i t) ≡ Some []
none_waits_for rows i t = go (row_at rows i)
  where
    go : (o : Option Row) → IsSomeAnd o (λ row. row.waiting.items ≡ []) → here_if (Waiting i t) o ≡ Some []
    go None none = absurd none
    go (Some row) none = ap (λ cs. Some (for_target t cs)) none

-- a child is the oldest for one target at most,
one_target : (t u k : ℕ) (cs : List Child) → NoneBefore t k cs → NoneBefore u k cs → t ≡ u
one_target t u k [] first other = absurd first
one_target t u zero (c ∷ cs) first other = sym first ∙ other
one_target t u (suc k) (c ∷ cs) first other = one_target t u k cs first.1 other.1

pub one_oldest : (rows : List Row) (i t u k : ℕ) → IsOldestFor rows i t k → IsOldestFor rows i u k → t ≡ u
one_oldest rows i t u k = go (row_at rows i)
  where
    go : (o : Option Row) → IsSomeAnd o (λ row. NoneBefore t k row.waiting.items) → IsSomeAnd o (λ row. NoneBefore u k row.waiting.items) → t ≡ u
    go None first other = absurd first
    go (Some row) first other = one_target t u k row.waiting.items first other

-- that of the child itself,
target_in : (t k : ℕ) (cs : List Child) → NoneBefore t k cs → (elim (slice_get cs k) [ None ↦ None | Some c ↦ Some c.target ]) ≡ Some t
target_in t k [] first = absurd first
target_in t zero (c ∷ cs) first = ap (λ (u : ℕ). Some u) first
target_in t (suc k) (c ∷ cs) first = target_in t k cs first.1

pub oldest_target : (rows : List Row) (i t k : ℕ) → IsOldestFor rows i t k → waiting_target rows i k ≡ Some t
oldest_target rows i t k = go (row_at rows i)
  where
    go : (o : Option Row) → IsSomeAnd o (λ row. NoneBefore t k row.waiting.items) →
        (elim o [ None ↦ None | Some row ↦ elim (slice_get row.waiting.items k) [ None ↦ None | Some c ↦ Some c.target ] ]) ≡ Some t
    go None first = absurd first
    go (Some row) first = target_in t k row.waiting.items first

-- and stands among those that wait
pub oldest_below : (rows : List Row) (i t k n : ℕ) → ManyWait rows i n → IsOldestFor rows i t k → k < n
oldest_below rows i t k n = go (row_at rows i)
  where
    go : (o : Option Row) → IsSomeAnd o (λ row. n ≡ length row.waiting.items) → IsSomeAnd o (λ row. NoneBefore t k row.waiting.items) → k < n
    go None many first = absurd first
    go (Some row) many first = let below = child_there t k row.waiting.items first in omega (arith, below, many)

-- A BARE INSTANCE
pub bare_is : (rows : List Row) (i : ℕ) → HasSent rows i → HasEmptyBuffer rows i → parcels_here rows (Held i) ≡ Some [] → IsBare rows i
bare_is rows i sent buffer held (Outputs j) own = rw own sent.0
bare_is rows i sent buffer held (Waiting j t) own = rw own (sent.1 t)
bare_is rows i sent buffer held (Contents j s) own = rw own (buffer s)
bare_is rows i sent buffer held (Held j) own = rw own held

-- A CLEAR INSTANCE
pub clear_is : (rows : List Row) (i : ℕ) → HasSent rows i → HasEmptyBuffer rows i → IsClear rows i
clear_is rows i sent buffer (Outputs j) own other = rw own sent.0
clear_is rows i sent buffer (Waiting j t) own other = rw own (sent.1 t)
clear_is rows i sent buffer (Contents j s) own other = rw own (buffer s)
clear_is rows i sent buffer (Held j) own other = absurd (grind (arith, nat_tests, own, other))

pub clear_sent : (rows : List Row) (i : ℕ) → IsClear rows i → HasSent rows i
clear_sent rows i clear = (clear (Outputs i) refl refl, λ t. clear (Waiting i t) refl refl)

pub clear_buffer : (rows : List Row) (i : ℕ) → IsClear rows i → HasEmptyBuffer rows i
clear_buffer rows i clear s = clear (Contents i s) refl refl

-- AN INSTANCE THAT MAY BE ENDED
none_of : (o : Option (List Parcel)) → o ≡ Some [] → IfSome o (λ ps. ps ≡ [])
none_of None none = cc
none_of (Some ps) none = one_some ps [] none

-- what is lent can't be seen
pub lent_unseen : (rows : List Row) (i : ℕ) → IsLent rows i → parcels_here rows (Held i) ≡ None
lent_unseen rows i = go (row_at rows i)
  where
    go : (o : Option Row) → IsSomeAnd o (λ row. row.held ≡ None) → here_if (Held i) o ≡ None
    go None lent = absurd lent
    go (Some row) lent = ap held_items lent

pub ended_where : EndedWhere
ended_where rows i = (λ bare p own. none_of (parcels_here rows p) (bare p own), clear_ended)
  where
    clear_ended : IsClear rows i → IsLent rows i → (p : Place) → owner p ≡ i → IfSome (parcels_here rows p) (λ ps. ps ≡ [])
    clear_ended clear lent (Held j) own = rw (own, lent_unseen rows i lent) tt
    clear_ended clear lent p own = none_of (parcels_here rows p) (clear p own refl)

pub bare_ended : (rows : List Row) → AreBare rows → AreEnded rows
bare_ended rows bare i there = (ended_where rows i).0 (bare i there)
