-- What a transform does that holds nothing from one call to the next.
use Rattle.std.proofs.Common.{◌≡◌, ℕ, ◌+◌, ◌<◌, ◌≤◌, ◌^◌, List, [], ◌∷◌, ◌++◌, length, take, All, refl, sym, ap, ◌∙◌, subst, arith, Some}
use Rattle.std.specs.Prelude.{slice_get}
use Rattle.std.specs.List.{sum_by}
use Rattle.std.specs.List.Sorted.{IsPermutation}
use Rattle.std.proofs.Math.Pow.{pow_mono}
use Rattle.std.proofs.lemmas.List.{length-append}
use Rattle.std.proofs.lemmas.List.Elements.{All-append}
use Rattle.std.proofs.lemmas.List.Sorted.{sum_by-IsPermutation, length_permutation}
use Rattle.std.proofs.lemmas.List.Sums.{sum_by-append, sum_by-cons}
use Rattle.vx_ledger.specs.Copies.{Copy}
use Rattle.vx_ledger.specs.declared.parcel.Parcel.{Parcel}
use Rattle.vx_transform.specs.Moves.{NamesPorts, added, Moves}
use Rattle.vx_transform.specs.Shelves.{Shelved, copies_dropped, copies_on}
use Rattle.vx_keeping.specs.Given.{SameCopies}
use Rattle.vx_keeping.proofs.Weights.{moves_same}
use Rattle.vx_keeping.proofs.Off.{take_next}

empty_list : {X : Type 0} (xs : List X) → length xs ≤ 0 → xs ≡ []
empty_list [] few = refl
empty_list (x ∷ xs) few = absurd (omega (arith, few))

module _ (n : ℕ) (given kept : List Copy) (before after : Shelved) (moves : Moves n given kept before after) where
  pub moved_few : length kept ≤ length given
  moved_few =
      let a = length_permutation given (copies_on (added before after) ++ kept) moves.copies in
      let b = length-append (copies_on (added before after)) kept in
      omega (arith, a, b)

  pub moved_named : n ≤ 65 → All (NamesPorts 65) before.outputs → All (NamesPorts 65) after.outputs
  moved_named few named =
      subst (All (NamesPorts 65)) (sym moves.outputs) (All-append (NamesPorts 65) before.outputs (added before after).outputs named (λ k d l.
      let one = moves.named k d l in
      record { some = one.some; below = wider n few one.below }))
    where
      wider : {x : ℕ} (n : ℕ) → n ≤ 65 → x < 2 ^ n → x < 2 ^ 65
      wider n few below = let a = pow_mono few in omega (arith, a, below)

  pub moved_none : given ≡ [] → kept ≡ []
  moved_none none = let a = moved_few in let b = ap length none in empty_list kept (omega (arith, a, b))

  pub moved_same : given ≡ [] → SameCopies (copies_on before) (copies_on after)
  moved_same none w =
      let a = moves_same n given kept before after moves w in
      let b = sum_by-append w given (copies_on before) in
      let c = sum_by-append w kept (copies_on after) in
      let d = ap (sum_by w) none in
      let e = ap (sum_by w) (moved_none none) in
      omega (arith, a, b, c, d, e)

-- one of some parcels is given
module _ (n : ℕ) (taken rest : List Parcel) (p : Parcel) (held kept : List Copy) (before after : Shelved) (is : taken ≡ p ∷ rest) (moves : Moves n (held ++ p.finalizers) kept before after) where
  pub each_same : SameCopies (held ++ (copies_dropped taken ++ copies_on before)) (kept ++ (copies_dropped rest ++ copies_on after))
  each_same w =
      let a = moves_same n (held ++ p.finalizers) kept before after moves w in
      let b = sum_by-append w (held ++ p.finalizers) (copies_on before) in
      let c = sum_by-append w held p.finalizers in
      let d = sum_by-append w kept (copies_on after) in
      let e = sum_by-append w held (copies_dropped taken ++ copies_on before) in
      let f = sum_by-append w (copies_dropped taken) (copies_on before) in
      let g = ap (λ ps. sum_by w (copies_dropped ps)) is in
      let h = sum_by-append w p.finalizers (copies_dropped rest) in
      let j = sum_by-append w kept (copies_dropped rest ++ copies_on after) in
      let k = sum_by-append w (copies_dropped rest) (copies_on after) in
      omega (arith, a, b, c, d, e, f, g, h, j, k)

  pub each_few : length kept + length (copies_dropped rest) ≤ length held + length (copies_dropped taken)
  each_few =
      let a = moved_few n (held ++ p.finalizers) kept before after moves in
      let b = length-append held p.finalizers in
      let c = ap (λ ps. length (copies_dropped ps)) is in
      let d = length-append p.finalizers (copies_dropped rest) in
      omega (arith, a, b, c, d)

-- one copy is left over
pub leave_same : (held kept : List Copy) (copy : Copy) (left next : List Copy) → IsPermutation held (copy ∷ kept) → next ≡ left ++ copy ∷ [] → SameCopies (held ++ left) (kept ++ next)
leave_same held kept copy left next moved is w =
    let a = sum_by-IsPermutation w held (copy ∷ kept) moved in
    let b = sum_by-cons w copy kept in
    let c = sum_by-append w held left in
    let d = sum_by-append w kept next in
    let e = ap (sum_by w) is in
    let f = sum_by-append w left (copy ∷ []) in
    let g = sum_by-cons w copy [] in
    omega (arith, a, b, c, d, e, f, g)

pub passed_same : (held kept : List Copy) (copy : Copy) (left next : List Copy) → SameCopies held (copy ∷ kept) → next ≡ left ++ copy ∷ [] → SameCopies (held ++ left) (kept ++ next)
passed_same held kept copy left next moved is w =
    let a = moved w in
    let b = sum_by-cons w copy kept in
    let c = sum_by-append w held left in
    let d = sum_by-append w kept next in
    let e = ap (sum_by w) is in
    let f = sum_by-append w left (copy ∷ []) in
    let g = sum_by-cons w copy [] in
    omega (arith, a, b, c, d, e, f, g)

-- what stands between stays
pub left_same : (taken rest on left next : List Copy) → SameCopies (taken ++ left) (rest ++ next) → SameCopies (taken ++ (on ++ left)) (rest ++ (on ++ next))
left_same taken rest on left next same w =
    let a = same w in
    let b = sum_by-append w taken left in
    let c = sum_by-append w rest next in
    let d = sum_by-append w taken (on ++ left) in
    let e = sum_by-append w on left in
    let f = sum_by-append w rest (on ++ next) in
    let g = sum_by-append w on next in
    omega (arith, a, b, c, d, e, f, g)

pub leave_length : (held kept : List Copy) (copy : Copy) → IsPermutation held (copy ∷ kept) → length held ≡ length kept + 1
leave_length held kept copy moved = let a = length_permutation held (copy ∷ kept) moved in omega (arith, a)

pub leave_room : (left next : List Copy) (copy : Copy) → next ≡ left ++ copy ∷ [] → length next ≡ length left + 1
leave_room left next copy is = let a = ap length is in let b = length-append left (copy ∷ []) in omega (arith, a, b)

-- the copies of one parcel more are counted
pub counted_next : (ps : List Parcel) (i : ℕ) (p : Parcel) → slice_get ps i ≡ Some p → length (copies_dropped (take (i + 1) ps)) ≡ length (copies_dropped (take i ps)) + length p.finalizers
counted_next ps i p is =
    ap (λ qs. length (copies_dropped qs)) (take_next ps i p is) ∙ dropped_length (take i ps)
  where
    dropped_length : (qs : List Parcel) → length (copies_dropped (qs ++ p ∷ [])) ≡ length (copies_dropped qs) + length p.finalizers
    dropped_length [] = let a = length-append p.finalizers [] in omega (arith, a)
    dropped_length (q ∷ qs) =
        let a = length-append q.finalizers (copies_dropped (qs ++ p ∷ [])) in
        let b = length-append q.finalizers (copies_dropped qs) in
        let ih = dropped_length qs in
        omega (arith, a, b, ih)

-- all that was given is found again
pub answered_same : (held mid : List Copy) (taken rest : List Parcel) (before after : Shelved) (left room next : List Copy) → held ≡ [] →
    SameCopies (held ++ (copies_dropped taken ++ copies_on before)) (mid ++ (copies_dropped rest ++ copies_on after)) → room ≡ left → SameCopies (mid ++ room) next →
    SameCopies (copies_dropped taken ++ (copies_on before ++ left)) (copies_dropped rest ++ (copies_on after ++ next))
answered_same held mid taken rest before after left room next none given same leaves w =
    let a = given w in
    let b = leaves w in
    let c = ap (sum_by w) none in
    let d = ap (sum_by w) same in
    let e = sum_by-append w held (copies_dropped taken ++ copies_on before) in
    let f = sum_by-append w (copies_dropped taken) (copies_on before) in
    let g = sum_by-append w mid (copies_dropped rest ++ copies_on after) in
    let h = sum_by-append w (copies_dropped rest) (copies_on after) in
    let j = sum_by-append w mid room in
    let k = sum_by-append w (copies_dropped taken) (copies_on before ++ left) in
    let l = sum_by-append w (copies_on before) left in
    let m = sum_by-append w (copies_dropped rest) (copies_on after ++ next) in
    let n = sum_by-append w (copies_on after) next in
    omega (arith, a, b, c, d, e, f, g, h, j, k, l, m, n)
