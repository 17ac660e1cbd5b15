-- Copies that are taken out of parcels, one by one.
use Rattle.std.proofs.Common.{◌≡◌, ℕ, ◌+◌, List, [], ◌∷◌, ◌++◌, refl, sym, ap, ◌∙◌, arith}
use Rattle.std.specs.List.{sum_by}
use Rattle.std.proofs.lemmas.List.Sums.{sum_by-append}
use Rattle.vx_ledger.specs.Copies.{Copy}
use Rattle.vx_ledger.specs.declared.parcel.Parcel.{Parcel}
use Rattle.vx_transform.specs.declared.output.Output.{Output}
use Rattle.vx_transform.specs.Shelves.{Shelved, copies_put_out, copies_dropped, copies_on}
use Rattle.vx_keeping.specs.Given.{SameCopies}
use Rattle.vx_keeping.proofs.Weights.{put_out-append, no_copies}

pub parts_none : {X : Type 0} (xs ys : List X) → xs ++ ys ≡ [] → (xs ≡ []) × (ys ≡ [])
parts_none [] ys none = (refl, none)
parts_none (x ∷ xs) ys none = absurd cc

-- the first of some parcels that have no copies, and the others
pub first_bare : (old : List Parcel) (p : Parcel) (ps : List Parcel) → old ≡ p ∷ ps → copies_dropped old ≡ [] → (p.finalizers ≡ []) × (copies_dropped ps ≡ [])
first_bare old p ps is none = parts_none p.finalizers (copies_dropped ps) (ap copies_dropped (sym is) ∙ none)

-- the last of some outputs that have none, and the others
pub last_bare : (old : List Output) (o : Output) (os : List Output) → old ≡ os ++ o ∷ [] → copies_put_out old ≡ [] → (o.parcel.finalizers ≡ []) × (copies_put_out os ≡ [])
last_bare old o os is none = (no_copies o.parcel.finalizers (λ w. let e = weighs w in omega (arith, e)), no_copies (copies_put_out os) (λ w. let e = weighs w in omega (arith, e)))
  where
    weighs : (w : Copy → ℕ) → sum_by w (copies_put_out os) + sum_by w o.parcel.finalizers ≡ 0
    weighs w =
        let a = ap (λ l. sum_by w (copies_put_out l)) is in
        let b = put_out-append os (o ∷ []) w in
        let c = sum_by-append w o.parcel.finalizers [] in
        let d = ap (sum_by w) none in
        omega (arith, a, b, c, d)

-- the last of some outputs is taken
pub last_taken : (old : List Output) (o : Output) (os : List Output) (shelf : Shelved) → old ≡ os ++ o ∷ [] →
    SameCopies (copies_put_out old ++ copies_on shelf) (o.parcel.finalizers ++ (copies_put_out os ++ copies_on shelf))
last_taken old o os shelf is w =
    let a = ap (λ l. sum_by w (copies_put_out l)) is in
    let b = put_out-append os (o ∷ []) w in
    let c = sum_by-append w o.parcel.finalizers [] in
    let d = sum_by-append w (copies_put_out old) (copies_on shelf) in
    let e = sum_by-append w o.parcel.finalizers (copies_put_out os ++ copies_on shelf) in
    let f = sum_by-append w (copies_put_out os) (copies_on shelf) in
    omega (arith, a, b, c, d, e, f)
