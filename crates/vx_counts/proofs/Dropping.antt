-- What a transform discards counts once for each whole parcel.
use Rattle.std.proofs.Common.{◌≡◌, ℕ, ◌+◌, ◌<◌, Bool, true, false, ◌&&◌, ◌||◌, List, [], ◌∷◌, ◌++◌, length, cond, refl, sym, ap, subst, ◌∙◌, arith}
use Rattle.std.specs.Prelude.{◌==◌, count_by, if◌then◌else◌}
use Rattle.std.specs.List.{list_any}
use Rattle.std.proofs.lemmas.Bool.Decides.{nat_tests}
use Rattle.std.proofs.lemmas.List.{append-nil}
use Rattle.std.proofs.lemmas.List.Sums.{sum_by-cons, sum_by-append}
use Rattle.vx_record.specs.Records.{Record}
use Rattle.vx_record.specs.Copies.{count, joined, all_of}
use Rattle.vx_record.specs.Places.{Put}
use Rattle.vx_record.specs.Places.Place.{Held}
use Rattle.vx_record.specs.Places.Kind.{AHold}
use Rattle.vx_record.specs.Moving.{IsConserved}
use Rattle.vx_record.specs.Parcels.{first_copy}
use Rattle.vx_record.specs.Tallies.{one_if, firsts_in, is_first, is_held_by}
use Rattle.vx_record.proofs.OnePlace.{conserved}
use Rattle.vx_counts.specs.Spends.{WasPut}
use Rattle.vx_counts.specs.Answers.{WereTaken}
use Rattle.vx_counts.specs.Begun.{IsBegun, AreBegun}
use Rattle.vx_counts.specs.Laws.{DroppedComplete, DroppedBegun, FirstOfTaken}
use Rattle.vx_record.proofs.Counts.{count-append}
use Rattle.vx_record.proofs.SpentParcels.{count_puts-append}
use Rattle.vx_counts.proofs.Once.{itself, put_once}
use Rattle.vx_counts.proofs.Beginnings.{AreFull, full, full_part, begun_with, begun, behind_in, behind-append, parts_few}

count_by-cons : (f : ℕ → Bool) (x : ℕ) (xs : List ℕ) → count_by f (x ∷ xs) ≡ cond (f x) 1 0 + count_by f xs
count_by-cons f x xs = sum_by-cons (λ c. cond (f c) 1 0) x xs

any_some : (c : ℕ) (xs : List ℕ) → 0 < count c xs → list_any (λ d. d == c) xs ≡ true
any_some c [] some = absurd (omega arith)
any_some c (x ∷ xs) some = go (x == c) some (any_some c xs)
  where
    go : (b : Bool) → 0 < (if b then 1 else 0) + count c xs → (0 < count c xs → list_any (λ d. d == c) xs ≡ true) → (b || list_any (λ d. d == c) xs) ≡ true
    go true l rest = refl
    go false l rest = rest (omega arith)

any_none : (c : ℕ) (xs : List ℕ) → count c xs ≡ 0 → list_any (λ d. d == c) xs ≡ false
any_none c [] none = refl
any_none c (x ∷ xs) none = go (x == c) none (any_none c xs)
  where
    go : (b : Bool) → (if b then 1 else 0) + count c xs ≡ 0 → (count c xs ≡ 0 → list_any (λ d. d == c) xs ≡ false) → (b || list_any (λ d. d == c) xs) ≡ false
    go true none rest = absurd (omega arith)
    go false none rest = rest (omega arith)

-- the first copy of a parcel that was taken comes first
pub first_is : (h : Record) (i c : ℕ) (cs : List ℕ) → WasPut h (Held i) (c ∷ cs) → is_first h i c ≡ true
first_is h i c cs was =
    let all = ap (begun_with i c) was.2 in
    let parted = count_puts-append (λ (put : Put). is_held_by i put.place && (c == first_copy put.copies)) was.0 (record { place = Held i; copies = c ∷ cs } ∷ was.1) in
    let here : one_if ((i == i) && (c == c)) ≡ 1 = λ t. one_if (itself i t && itself c t) in
    let first = begun h i c in
    any_some c (all_of (firsts_in i) h) (omega arith)

-- and none of the others does
pub other_is : (h : Record) (i c d : ℕ) (cs : List ℕ) → IsConserved h → WasPut h (Held i) (c ∷ cs) → 0 < count d cs → is_first h i d ≡ false
other_is h i c d cs kept was some =
    let all = ap (behind_in i d) was.2 in
    let parted = behind-append i d was.0 (record { place = Held i; copies = c ∷ cs } ∷ was.1) in
    let here : (if i == i then count d cs else 0) ≡ count d cs = ap (λ (b : Bool). if b then count d cs else 0) (itself i) in
    let few = parts_few h i d kept in
    let once = put_once AHold h d kept in
    let first = begun h i d in
    any_none d (all_of (firsts_in i) h) (omega arith)

none_counted : (f : ℕ → Bool) (xs : List ℕ) → ((d : ℕ) → 0 < count d xs → f d ≡ false) → count_by f xs ≡ 0
none_counted f [] none = refl
none_counted f (x ∷ xs) none =
    let here : f x ≡ false = none x (grind (arith, nat_tests)) in
    let others = none_counted f xs (λ d l. none d (omega arith)) in
    count_by-cons f x xs ∙ (λ t. cond (here t) 1 0 + others t)

one_counted : (h : Record) (i : ℕ) (copies : List ℕ) → IsConserved h → IsBegun h (Held i) copies → count_by (is_first h i) copies ≡ 1
one_counted h i [] kept begun = absurd (begun.some refl)
one_counted h i (c ∷ cs) kept begun =
    let here = first_is h i c (cs ++ begun.rest) begun.put in
    let others = none_counted (is_first h i) cs
    (λ d l. other_is h i c d (cs ++ begun.rest) kept begun.put (let e = count-append d cs begun.rest in omega arith)) in
    count_by-cons (is_first h i) c cs ∙ (λ t. cond (here t) 1 0 + others t)

taken_some : (h : Record) (i : ℕ) (copies : List ℕ) → IsConserved h → WasPut h (Held i) copies → 0 < length copies
taken_some h i copies kept was =
    full_part i was.0 was.1 (record { place = Held i; copies = copies }) (subst (AreFull i) was.2 (full h i kept)) (itself i)

-- so it is of first parts of parcels
pub dropped_begun : DroppedBegun
dropped_begun h i [] legal begun = refl
dropped_begun h i (copies ∷ rest) legal begun =
    let here = one_counted h i copies (conserved h legal) begun.0 in
    let others = dropped_begun h i rest legal begun.1 in
    let both = sum_by-append (λ c. cond (is_first h i c) 1 0) copies (joined rest) in
    omega arith

-- and of whole ones
whole_begun : (h : Record) (i : ℕ) (parcels : List (List ℕ)) → IsConserved h → WereTaken h i parcels → AreBegun h (Held i) parcels
whole_begun h i [] kept taken = tt
whole_begun h i (copies ∷ rest) kept taken = (
  record {
    rest = [];
    put = subst (WasPut h (Held i)) (sym (append-nil copies)) taken.0;
    some = λ none. let some = taken_some h i copies kept taken.0 in let gone = ap (λ (cs : List ℕ). length cs) none in absurd (omega arith);
  },
  whole_begun h i rest kept taken.1,
)

pub dropped_complete : DroppedComplete
dropped_complete h i parcels legal taken = dropped_begun h i parcels legal (whole_begun h i parcels (conserved h legal) taken)

pub first_of_taken : FirstOfTaken
first_of_taken h i c rest legal was = (first_is h i c rest was, λ d l. other_is h i c d rest (conserved h legal) was l)
