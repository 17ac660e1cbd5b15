-- The next mark from a place on, and whose marks stay right where parcels move.
use Rattle.std.proofs.Common.{◌≡◌, ◌∙◌, ℕ, zero, suc, ◌+◌, ◌-◌, ◌<◌, ◌≤◌, Bool, true, false, List, [], ◌∷◌, ◌++◌, length, take, drop, slice_index, Option, Some, None, refl, sym, ap, subst, arith}
use Rattle.std.specs.Prelude.{◌≢◌, ◌==◌, ◌&&◌, IfSome, slice_get}
use Rattle.std.proofs.lemmas.Bool.Decides.{nat_tests}
use Rattle.std.proofs.lemmas.List.{length-append, length-drop}
use Rattle.memchr.specs.Find.{IsFirstByte, is_byte}
use Rattle.vx_record.specs.Places.{Place, owner, same_place}
use Rattle.vx_record.specs.Places.Place.{Outputs, Waiting, Contents, Held}
use Rattle.vx_places.specs.declared.row.Row.{Row}
use Rattle.vx_places.specs.declared.marks.Marks.{Marks}
use Rattle.vx_places.specs.Views.{row_at, here_if, parcels_here, Others}
use Rattle.vx_record.specs.Lists.{is_child_of}
use Rattle.vx_places.specs.Looks.{HasSent}
use Rattle.vx_places.specs.Marks.{AreMarked, AreMarkedBut, AreMarkedFor, IsBefore, IsNextMark, IsUnfilled, UnlessMarked}

-- THE NEXT MARK
behind : (xs : List ℕ) (from k n : ℕ) → n ≡ from + k → slice_get (drop from xs) k ≡ slice_get xs n
behind [] zero k n is = refl
behind [] (suc from) k n is = refl
behind (x ∷ xs) zero k n is = ap (slice_get (x ∷ xs)) (omega (arith, is))
behind (x ∷ xs) (suc from) k zero is = absurd (omega (arith, is))
behind (x ∷ xs) (suc from) k (suc n) is = behind xs from k n (omega (arith, is))

byte_here : (xs : List ℕ) (k x : ℕ) → slice_get xs k ≡ Some x → slice_index xs k ≡ x
byte_here [] k x at = cc
byte_here (y ∷ ys) zero x at = cc
byte_here (y ∷ ys) (suc k) x at = byte_here ys k x at

byte_there : (xs : List ℕ) (k : ℕ) → k < length xs → slice_get xs k ≡ Some (slice_index xs k)
byte_there [] k l = absurd (omega (arith, l))
byte_there (y ∷ ys) zero l = refl
byte_there (y ∷ ys) (suc k) l = byte_there ys k (omega (arith, l))

within : (xs : List ℕ) (k x : ℕ) → slice_get xs k ≡ Some x → k < length xs
within [] k x at = cc
within (y ∷ ys) zero x at = omega arith
within (y ∷ ys) (suc k) x at = let below = within ys k x at in omega (arith, below)

take_all : (xs : List ℕ) (n : ℕ) → length xs ≤ n → take n xs ≡ xs
take_all [] zero l = refl
take_all [] (suc n) l = refl
take_all (x ∷ xs) zero l = absurd (omega (arith, l))
take_all (x ∷ xs) (suc n) l = ap (λ (ys : List ℕ). x ∷ ys) (take_all xs n (omega (arith, l)))

-- what stands from a place on
pub rest_whole : (xs : List ℕ) (from : ℕ) → take (length xs - from) (drop from xs) ≡ drop from xs
rest_whole xs from = let all = length-drop from xs in take_all (drop from xs) (length xs - from) (omega (arith, all))

module _ (marks : List ℕ) (from : ℕ) where
  unmarked : (j : ℕ) → from ≤ j → (is_byte 1 (slice_index (drop from marks) (j - from)) ≡ true → ⊥) → IfSome (slice_get marks j) (λ mark. mark ≢ 1)
  unmarked j low none = go (slice_get marks j) refl
    where
      go : (o : Option ℕ) → slice_get marks j ≡ o → IfSome o (λ mark. mark ≢ 1)
      go None at = tt
      go (Some mark) at = λ one.
          let here = byte_here (drop from marks) (j - from) mark (behind marks from (j - from) j (omega (arith, low)) ∙ at) in
          none (grind (arith, nat_tests, here, one))

  place_in : (j x : ℕ) → from ≤ j → slice_get marks j ≡ Some x → j - from < length (drop from marks)
  place_in j x low at = within (drop from marks) (j - from) x (behind marks from (j - from) j (omega (arith, low)) ∙ at)

  pub next_none : IsFirstByte (is_byte 1) (drop from marks) None → IsNextMark marks from None
  next_none none i low = go (slice_get marks i) refl
    where
      go : (o : Option ℕ) → slice_get marks i ≡ o → IfSome o (λ mark. mark ≢ 1)
      go None at = tt
      go (Some mark) at = subst (λ (o : Option ℕ). IfSome o (λ m. m ≢ 1)) at (unmarked i low (none (i - from) (omega arith) (place_in i mark low at)))

  pub next_some : (k : ℕ) → IsFirstByte (is_byte 1) (drop from marks) (Some k) → IsNextMark marks from (Some (from + k))
  next_some k first = (
    omega arith,
    sym (behind marks from k (from + k) refl) ∙ (byte_there (drop from marks) k first.0.high ∙ ap Some (let is = first.1 in grind (arith, nat_tests, is))),
    λ j low below. unmarked j low (first.0.before (j - from) (omega arith) (omega (arith, low, below))),
  )

-- WHOSE MARKS STAY RIGHT
other_test : (m n : ℕ) → n ≢ m → (m == n) ≡ false
other_test m n e = grind (arith, nat_tests)

pub other_place : (q p : Place) → owner p ≢ owner q → same_place q p ≡ false
other_place (Outputs i) (Outputs j) other = other_test i j other
other_place (Waiting i t) (Waiting j u) other = ap (λ (b : Bool). b && (t == u)) (other_test i j other)
other_place (Contents i s) (Contents j r) other = ap (λ (b : Bool). b && (s == r)) (other_test i j other)
other_place (Held i) (Held j) other = other_test i j other
other_place q p other = cc

keep : (F G : ℕ → Type 0) (marks : List ℕ) (i : ℕ) → (F i → G i) → UnlessMarked F marks i → UnlessMarked G marks i
keep F G marks i leads is = go (slice_get marks i) is
  where
    go : (o : Option ℕ) → IfSome o (λ mark. mark ≢ 1 → F i) → IfSome o (λ mark. mark ≢ 1 → G i)
    go None was = tt
    go (Some mark) was = λ other. leads (was other)

module _ {old new : List Row} {m : Marks} (size : length new ≡ length old) (marked : AreMarked old m) where
  -- where the places of some instances have what they had their marks stay right
  still : (Meant : ℕ → Type 0) → ((p : Place) → Meant (owner p) → parcels_here new p ≡ parcels_here old p) → AreMarkedFor Meant new m
  still Meant same = record {
    unsent_size = marked.unsent_size ∙ sym size;
    filled_size = marked.filled_size ∙ sym size;
    sent = λ i meant. keep (HasSent old) (HasSent new) m.unsent.items i (λ was. (same (Outputs i) meant ∙ was.0, λ t. same (Waiting i t) meant ∙ was.1 t)) (marked.sent i tt);
    unfilled = λ i meant. keep (IsUnfilled old) (IsUnfilled new) m.filled.items i (λ was. (λ s. same (Contents i s) meant ∙ was.0 s, same (Held i) meant ∙ was.1)) (marked.unfilled i tt);
  }

  pub still_all : ((p : Place) → parcels_here new p ≡ parcels_here old p) → AreMarked new m
  still_all same = still (λ i. Unit {0}) (λ p meant. same p)

  -- behind a move at an instance those of all others are right
  pub still_but : (k : ℕ) → ((p : Place) → owner p ≢ k → parcels_here new p ≡ parcels_here old p) → AreMarkedBut k new m
  still_but k same = still (λ i. i ≢ k) same

  pub still_at : (q : Place) → Others q old new → AreMarkedBut (owner q) new m
  still_at q others = still_but (owner q) (λ p other. others p (other_place q p other))

  pub still_back : (q : Place) → Others q new old → AreMarkedBut (owner q) new m
  still_back q others = still_but (owner q) (λ p other. sym (others p (other_place q p other)))

pub other_child : (i : ℕ) (p : Place) → owner p ≢ i → is_child_of i p ≡ false
other_child i (Waiting j t) other = other_test j i (λ e. other (sym e))
other_child i (Outputs j) other = refl
other_child i (Contents j s) other = refl
other_child i (Held j) other = refl

-- ONE INSTANCE MORE
more_marked : (F : ℕ → Type 0) (ms : List ℕ) (i : ℕ) → ((j : ℕ) → UnlessMarked F ms j) → ((j : ℕ) → length ms ≤ j → F j) → UnlessMarked F (ms ++ 0 ∷ []) i
more_marked F [] zero all past = λ other. past zero (omega arith)
more_marked F [] (suc i) all past = tt
more_marked F (m ∷ ms) zero all past = all zero
more_marked F (m ∷ ms) (suc i) all past = more_marked (λ j. F (suc j)) ms i (λ j. all (suc j)) (λ j l. past (suc j) (omega (arith, l)))

past_end : (rows : List Row) (i : ℕ) → length rows ≤ i → row_at rows i ≡ None
past_end [] i l = refl
past_end (row ∷ rows) zero l = absurd (omega (arith, l))
past_end (row ∷ rows) (suc i) l = past_end rows i (omega (arith, l))

pub marked_more : {old new : List Row} (unsent filled : List ℕ) {was now : Marks} → length new ≡ length old + 1 → ((p : Place) → parcels_here new p ≡ parcels_here old p) →
    was.unsent.items ≡ unsent → was.filled.items ≡ filled → now.unsent.items ≡ unsent ++ 0 ∷ [] → now.filled.items ≡ filled ++ 0 ∷ [] → AreMarked old was → AreMarked new now
marked_more {old} {new} unsent filled {was} {now} size same was_unsent was_filled is_unsent is_filled marked =
    let sizes : length was.unsent.items ≡ length old = marked.unsent_size in
    let others : length was.filled.items ≡ length old = marked.filled_size in
    record {
      unsent_size = rw is_unsent (let more = length-append unsent (0 ∷ []) in let same_size = ap length was_unsent in omega (arith, more, same_size, sizes, size));
      filled_size = rw is_filled (let more = length-append filled (0 ∷ []) in let same_size = ap length was_filled in omega (arith, more, same_size, others, size));
      sent = λ i meant. subst (λ (ms : List ℕ). UnlessMarked (HasSent new) ms i) (sym is_unsent)
          (more_marked (HasSent new) unsent i (λ j. subst (λ (ms : List ℕ). UnlessMarked (HasSent new) ms j) was_unsent (keep (HasSent old) (HasSent new) was.unsent.items j (λ h. (same (Outputs j) ∙ h.0, λ t. same (Waiting j t) ∙ h.1 t)) (marked.sent j tt)))
          (λ j l. let none = past_end old j (let same_size = ap length was_unsent in omega (arith, same_size, sizes, l)) in (same (Outputs j) ∙ ap (here_if (Outputs j)) none, λ t. same (Waiting j t) ∙ ap (here_if (Waiting j t)) none)));
      unfilled = λ i meant. subst (λ (ms : List ℕ). UnlessMarked (IsUnfilled new) ms i) (sym is_filled)
          (more_marked (IsUnfilled new) filled i (λ j. subst (λ (ms : List ℕ). UnlessMarked (IsUnfilled new) ms j) was_filled (keep (IsUnfilled old) (IsUnfilled new) was.filled.items j (λ h. (λ s. same (Contents j s) ∙ h.0 s, same (Held j) ∙ h.1)) (marked.unfilled j tt)))
          (λ j l. let none = past_end old j (let same_size = ap length was_filled in omega (arith, same_size, others, l)) in (λ s. same (Contents j s) ∙ ap (here_if (Contents j s)) none, same (Held j) ∙ ap (here_if (Held j)) none)));
    }

-- which has a keeper, and is marked as one that may hold something
last_marked : (F : ℕ → Type 0) (ms : List ℕ) (i : ℕ) → ((j : ℕ) → j < length ms → UnlessMarked F ms j) → UnlessMarked F (ms ++ 1 ∷ []) i
last_marked F [] zero all = λ other. absurd (other refl)
last_marked F [] (suc i) all = tt
last_marked F (m ∷ ms) zero all = all zero (omega arith)
last_marked F (m ∷ ms) (suc i) all = last_marked (λ j. F (suc j)) ms i (λ j l. all (suc j) (omega (arith, l)))

pub keeper_marked : {old new : List Row} {was now : Marks} → length new ≡ length old + 1 → Others (Held (length old)) old new →
    now.unsent.items ≡ was.unsent.items ++ 0 ∷ [] → now.filled.items ≡ was.filled.items ++ 1 ∷ [] → AreMarked old was → AreMarked new now
keeper_marked {old} {new} {was} {now} size others is_unsent is_filled marked =
    let unsents : length was.unsent.items ≡ length old = marked.unsent_size in
    let filleds : length was.filled.items ≡ length old = marked.filled_size in
    record {
      unsent_size = rw is_unsent (let more = length-append was.unsent.items (0 ∷ []) in omega (arith, more, unsents, size));
      filled_size = rw is_filled (let more = length-append was.filled.items (1 ∷ []) in omega (arith, more, filleds, size));
      sent = λ i meant. subst (λ (ms : List ℕ). UnlessMarked (HasSent new) ms i) (sym is_unsent)
          (more_marked (HasSent new) was.unsent.items i (λ j. keep (HasSent old) (HasSent new) was.unsent.items j (λ h. (others (Outputs j) refl ∙ h.0, λ t. others (Waiting j t) refl ∙ h.1 t)) (marked.sent j tt))
          (λ j l. let none = past_end old j (omega (arith, unsents, l)) in (others (Outputs j) refl ∙ ap (here_if (Outputs j)) none, λ t. others (Waiting j t) refl ∙ ap (here_if (Waiting j t)) none)));
      unfilled = λ i meant. subst (λ (ms : List ℕ). UnlessMarked (IsUnfilled new) ms i) (sym is_filled)
          (last_marked (IsUnfilled new) was.filled.items i (λ j l. keep (IsUnfilled old) (IsUnfilled new) was.filled.items j
          (λ h. (λ s. others (Contents j s) refl ∙ h.0 s, others (Held j) (other_test (length old) j (λ e. omega (arith, filleds, l, e))) ∙ h.1)) (marked.unfilled j tt)));
    }

-- WHAT AN UNMARKED INSTANCE HAS
pub before_next : (F : ℕ → Type 0) (marks : List ℕ) (from n : ℕ) (next : Option ℕ) → length marks ≡ n → IsNextMark marks from next → ((i : ℕ) → UnlessMarked F marks i) →
    (i : ℕ) → from ≤ i → i < n → IsBefore i next → F i
before_next F marks from n next size is all i low below before = there (slice_get marks i) refl (all i) (plain next is before)
  where
    plain : (o : Option ℕ) → IsNextMark marks from o → IsBefore i o → IfSome (slice_get marks i) (λ mark. mark ≢ 1)
    plain None none b = none i low
    plain (Some k) some b = some.2 i low b

    there : (o : Option ℕ) → slice_get marks i ≡ o → IfSome o (λ mark. mark ≢ 1 → F i) → IfSome o (λ mark. mark ≢ 1) → F i
    there None at leads other = let inside : i < length marks = omega (arith, size, below) in let no : None ≡ Some (slice_index marks i) = sym at ∙ byte_there marks i inside in cc
    there (Some mark) at leads other = leads other
