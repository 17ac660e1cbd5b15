-- Copies, however they are weighed.
use Rattle.std.proofs.Common.{◌≡◌, ℕ, ◌+◌, ◌<◌, Bool, true, false, ◌&&◌, List, [], ◌∷◌, ◌++◌, refl, sym, ap, ◌∙◌, arith, inl, inr}
use Rattle.std.specs.Prelude.{◌==◌, if◌then◌else◌}
use Rattle.std.specs.List.{sum_by}
use Rattle.std.proofs.lemmas.Bool.Decides.{nat_tests}
use Rattle.std.proofs.lemmas.Bool.{and_parts}
use Rattle.std.proofs.lemmas.List.Sums.{sum_by-append, sum_by-cons}
use Rattle.std.proofs.lemmas.List.Sorted.{sum_by-IsPermutation}
use Rattle.vx_ledger.specs.Copies.{Copy, joined, numbers_of}
use Rattle.vx_ledger.specs.declared.parcel.Parcel.{Parcel}
use Rattle.vx_transform.specs.declared.output.Output.{Output}
use Rattle.vx_transform.specs.Shelves.{Shelved, copies_put_out, copies_dropped, copies_on}
use Rattle.vx_transform.specs.Moves.{added, Moves}
use Rattle.vx_record.specs.Copies.{count}
use Rattle.vx_places.specs.Numbers.{IsCopyIn}
use Rattle.vx_keeping.specs.Given.{SameCopies}

-- LISTS OF LISTS
pub joined-append : (xs ys : List (List Copy)) (w : Copy → ℕ) → sum_by w (joined (xs ++ ys)) ≡ sum_by w (joined xs) + sum_by w (joined ys)
joined-append [] ys w = omega arith
joined-append (x ∷ xs) ys w =
    let a = sum_by-append w x (joined (xs ++ ys)) in
    let b = sum_by-append w x (joined xs) in
    let ih = joined-append xs ys w in
    omega (arith, a, b, ih)

pub put_out-append : (xs ys : List Output) (w : Copy → ℕ) → sum_by w (copies_put_out (xs ++ ys)) ≡ sum_by w (copies_put_out xs) + sum_by w (copies_put_out ys)
put_out-append [] ys w = omega arith
put_out-append (x ∷ xs) ys w =
    let a = sum_by-append w x.parcel.finalizers (copies_put_out (xs ++ ys)) in
    let b = sum_by-append w x.parcel.finalizers (copies_put_out xs) in
    let ih = put_out-append xs ys w in
    omega (arith, a, b, ih)

pub dropped-append : (xs ys : List Parcel) (w : Copy → ℕ) → sum_by w (copies_dropped (xs ++ ys)) ≡ sum_by w (copies_dropped xs) + sum_by w (copies_dropped ys)
dropped-append [] ys w = omega arith
dropped-append (x ∷ xs) ys w =
    let a = sum_by-append w x.finalizers (copies_dropped (xs ++ ys)) in
    let b = sum_by-append w x.finalizers (copies_dropped xs) in
    let ih = dropped-append xs ys w in
    omega (arith, a, b, ih)

-- what a call moves is what it held and was given, and what stood on the shelf
pub moves_same : (n : ℕ) (given kept : List Copy) (before after : Shelved) → Moves n given kept before after → SameCopies (given ++ copies_on before) (kept ++ copies_on after)
moves_same n given kept before after m w =
    let more = added before after in
    let a = sum_by-append w given (copies_on before) in
    let b = sum_by-append w kept (copies_on after) in
    let c = sum_by-append w (copies_put_out before.outputs) (copies_dropped before.dropped) in
    let d = sum_by-append w (copies_put_out after.outputs) (copies_dropped after.dropped) in
    let e = ap (λ os. sum_by w (copies_put_out os)) m.outputs ∙ put_out-append before.outputs more.outputs w in
    let f = ap (λ ps. sum_by w (copies_dropped ps)) m.dropped ∙ dropped-append before.dropped more.dropped w in
    let g = sum_by-IsPermutation w given (copies_on more ++ kept) m.copies in
    let h = sum_by-append w (copies_on more) kept in
    let k = sum_by-append w (copies_put_out more.outputs) (copies_dropped more.dropped) in
    omega (arith, a, b, c, d, e, f, g, h, k)

-- NUMBERS
-- whether a copy has a number, as a weight
abbrev pub of_number : ℕ → Copy → ℕ
of_number c copy = if copy.number == c then 1 else 0

pub count_numbers : (c : ℕ) (cs : List Copy) → count c (numbers_of cs) ≡ sum_by (of_number c) cs
count_numbers c [] = refl
count_numbers c (x ∷ cs) = let ih = count_numbers c cs in let e = sum_by-cons (of_number c) x cs in omega (arith, ih, e)

pub same_counts : (old new : List Copy) → SameCopies old new → (c : ℕ) → count c (numbers_of old) ≡ count c (numbers_of new)
same_counts old new same c = count_numbers c old ∙ same (of_number c) ∙ sym (count_numbers c new)

-- MEMBERS
-- whether a copy is this one, as a weight
abbrev pub is_same : Copy → Copy → Bool
is_same a b = (b.batch == a.batch) && ((b.number == a.number) && (b.place == a.place))

abbrev pub of_copy : Copy → Copy → ℕ
of_copy a b = if is_same a b then 1 else 0

copy_is : (a b : Copy) → a.batch ≡ b.batch → a.number ≡ b.number → a.place ≡ b.place → a ≡ b
copy_is a b p q r =
    let f : ℕ → Copy = λ n. record { batch = n; number = a.number; place = a.place } in
    let g : ℕ → Copy = λ n. record { batch = b.batch; number = n; place = a.place } in
    let h : ℕ → Copy = λ n. record { batch = b.batch; number = b.number; place = n } in
    ap f p ∙ ap g q ∙ ap h r

same_is : (a b : Copy) → is_same a b ≡ true → b ≡ a
same_is a b is =
    let first = and_parts (b.batch == a.batch) ((b.number == a.number) && (b.place == a.place)) is in
    let rest = and_parts (b.number == a.number) (b.place == a.place) first.1 in
    copy_is b a (grind (arith, nat_tests, first)) (grind (arith, nat_tests, rest)) (grind (arith, nat_tests, rest))

self_same : (a : Copy) → is_same a a ≡ true
self_same a = grind (arith, nat_tests)

pub in_weighs : (cs : List Copy) (copy : Copy) → IsCopyIn cs copy → 0 < sum_by (of_copy copy) cs
in_weighs [] copy is = absurd is
in_weighs (c ∷ cs) copy (inl here) =
    let e = sum_by-cons (of_copy copy) c cs in
    let w = ap (of_copy copy) here ∙ ap (λ (b : Bool). if b then 1 else 0) (self_same copy) in
    omega (arith, e, w)
in_weighs (c ∷ cs) copy (inr more) = let e = sum_by-cons (of_copy copy) c cs in let ih = in_weighs cs copy more in omega (arith, e, ih)

pub weighs_in : (cs : List Copy) (copy : Copy) → 0 < sum_by (of_copy copy) cs → IsCopyIn cs copy
weighs_in [] copy l = absurd (omega (arith, l))
weighs_in (c ∷ cs) copy l = go (is_same copy c) refl (λ more. weighs_in cs copy more)
  where
    go : (b : Bool) → is_same copy c ≡ b → (0 < sum_by (of_copy copy) cs → IsCopyIn cs copy) → IsCopyIn (c ∷ cs) copy
    go true is ih = inl (same_is copy c is)
    go false other ih =
        let e = sum_by-cons (of_copy copy) c cs in
        let w : of_copy copy c ≡ 0 = ap (λ (b : Bool). if b then 1 else 0) other in
        inr (ih (omega (arith, l, e, w)))

pub same_in : (old new : List Copy) (copy : Copy) → SameCopies old new → IsCopyIn new copy → IsCopyIn old copy
same_in old new copy same is = let e = same (of_copy copy) in let l = in_weighs new copy is in weighs_in old copy (omega (arith, e, l))

-- nothing weighs where there is nothing
pub no_copies : (cs : List Copy) → ((w : Copy → ℕ) → sum_by w cs ≡ 0) → cs ≡ []
no_copies [] none = refl
no_copies (c ∷ cs) none = let w : Copy → ℕ = λ x. 1 in let e = sum_by-cons w c cs in let n = none w in absurd (omega (arith, e, n))
