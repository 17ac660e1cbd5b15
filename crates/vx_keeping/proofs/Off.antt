-- What a host made, taken off a shelf.
use Rattle.std.proofs.Common.{◌≡◌, ℕ, zero, suc, ◌+◌, Option, Some, None, List, [], ◌∷◌, ◌++◌, length, drop, take, refl, sym, ap, ◌∙◌, subst, arith, append_assoc}
use Rattle.std.specs.Prelude.{◌≢◌, All, slice_get}
use Rattle.std.specs.List.{sum_by}
use Rattle.std.proofs.Math.Seq.{drop-append_seam}
use Rattle.std.proofs.lemmas.List.{map-append}
use Rattle.std.proofs.lemmas.List.Elements.{All-append, All-cons}
use Rattle.std.proofs.lemmas.List.Sums.{sum_by-append, sum_by-cons}
use Rattle.vx_ledger.specs.Copies.{Copy, numbers_of}
use Rattle.vx_ledger.specs.declared.parcel.Parcel.{Parcel}
use Rattle.vx_transform.specs.declared.output.Output.{Output}
use Rattle.vx_transform.specs.Moves.{NamesPorts}
use Rattle.vx_transform.specs.Shelves.{Shelved, copies_put_out, copies_dropped, copies_on}
use Rattle.vx_record.specs.Parcels.{first_copy}
use Rattle.vx_keeping.specs.Given.{SameCopies, IsSound, firsts_of}
use Rattle.vx_keeping.specs.Stored.{with_shelf}
use Rattle.vx_keeping.proofs.Weights.{put_out-append}

-- FIRST COPIES
pub first_some : (cs : List Copy) (copy : Copy) → Some copy ≡ slice_get cs 0 → copy.number ≡ first_copy (numbers_of cs)
first_some [] copy is = absurd cc
first_some (c ∷ cs) copy is = ap (λ (o : Option Copy). elim o [ None ↦ 0 | Some x ↦ x.number ]) is

pub first_none : (cs : List Copy) → None ≡ slice_get cs 0 → 0 ≡ first_copy (numbers_of cs)
first_none [] is = refl
first_none (c ∷ cs) is = absurd cc

-- one more of some parcels
pub take_next : {X : Type 0} (xs : List X) (i : ℕ) (x : X) → slice_get xs i ≡ Some x → take (i + 1) xs ≡ take i xs ++ x ∷ []
take_next [] i x is = absurd cc
take_next (y ∷ ys) zero x is = ap (λ o. elim o [ None ↦ y ∷ [] | Some z ↦ z ∷ [] ]) is
take_next (y ∷ ys) (suc i) x is = ap (λ n. take n (y ∷ ys)) (next_suc i) ∙ ap (λ l. y ∷ l) (take_next ys i x is)
  where
    next_suc : (i : ℕ) → suc i + 1 ≡ suc (i + 1)
    next_suc i = omega arith

pub firsts_next : (ps : List Parcel) (i : ℕ) (p : Parcel) (n : ℕ) → slice_get ps i ≡ Some p → n ≡ first_copy (numbers_of p.finalizers) → (was next : List ℕ) → was ≡ firsts_of (take i ps) → next ≡ was ++ n ∷ [] →
    next ≡ firsts_of (take (i + 1) ps)
firsts_next ps i p n is first was next so more =
    more ∙ ap (λ l. l ++ n ∷ []) so ∙ ap (λ m. firsts_of (take i ps) ++ m ∷ []) first ∙ sym (map-append (λ (q : Parcel). first_copy (numbers_of q.finalizers)) (take i ps) (p ∷ [])) ∙ ap firsts_of (sym (take_next ps i p is))

-- WHAT IS DISCARDED
pub begins_any : {X : Type 0} (was more now : List X) → now ≡ was ++ more → now ≡ was ++ drop (length was) now
begins_any was more now is = is ∙ ap (λ cs. was ++ cs) (sym (ap (drop (length was)) is ∙ drop-append_seam was more))

pub begins_next : (was now next : List Copy) (copy : Copy) → now ≡ was ++ drop (length was) now → next ≡ now ++ copy ∷ [] → next ≡ was ++ drop (length was) next
begins_next was now next copy begins is =
    begins_any was (drop (length was) now ++ copy ∷ []) next (is ∙ ap (λ cs. cs ++ copy ∷ []) begins ∙ append_assoc was (drop (length was) now) (copy ∷ []))

pub discard_same : (t s d u r e : List Copy) (copy : Copy) → SameCopies (t ++ s) (copy ∷ (u ++ r)) → e ≡ d ++ copy ∷ [] → SameCopies (t ++ (s ++ d)) (u ++ (r ++ e))
discard_same t s d u r e copy same is w =
    let a = same w in
    let b = sum_by-append w t s in
    let c = sum_by-cons w copy (u ++ r) in
    let f = sum_by-append w u r in
    let g = sum_by-append w t (s ++ d) in
    let h = sum_by-append w s d in
    let j = sum_by-append w u (r ++ e) in
    let k = sum_by-append w r e in
    let l = ap (sum_by w) is in
    let m = sum_by-append w d (copy ∷ []) in
    let n = sum_by-cons w copy [] in
    omega (arith, a, b, c, f, g, h, j, k, l, m, n)

pub discard_none : (t s d : List Copy) (taken dropped : List Parcel) → SameCopies (t ++ s) [] → taken ≡ [] → dropped ≡ [] → SameCopies (t ++ (s ++ d)) (copies_dropped taken ++ (copies_dropped dropped ++ d))
discard_none t s d taken dropped same none empty w =
    let a = same w in
    let b = sum_by-append w t s in
    let g = sum_by-append w t (s ++ d) in
    let h = sum_by-append w s d in
    let j = ap (λ ps. sum_by w (copies_dropped ps ++ (copies_dropped dropped ++ d))) none in
    let k = ap (λ ps. sum_by w (copies_dropped ps ++ d)) empty in
    omega (arith, a, b, g, h, j, k)

-- OUTPUTS
full_or_not : (cs : List Copy) {P : Type 0} → (cs ≢ [] → P) → (cs ≡ [] → P) → P
full_or_not [] full empty = empty refl
full_or_not (c ∷ cs) full empty = full (λ none. cc)

pub put_same : (ready next : List Output) (old rest : List Output) (o : Output) → old ≡ o ∷ rest → (o.parcel.finalizers ≢ [] → next ≡ ready ++ o ∷ []) → (o.parcel.finalizers ≡ [] → next ≡ ready) →
    SameCopies (copies_put_out (ready ++ old)) (copies_put_out (next ++ rest))
put_same ready next old rest o is full empty w =
    let a = put_out-append ready old w in
    let b = put_out-append next rest w in
    let c = ap (λ os. sum_by w (copies_put_out os)) is in
    let d = sum_by-append w o.parcel.finalizers (copies_put_out rest) in
    let e : sum_by w (copies_put_out next) ≡ sum_by w (copies_put_out ready) + sum_by w o.parcel.finalizers = next_weigh in
    omega (arith, a, b, c, d, e)
  where
    next_weigh : sum_by w (copies_put_out next) ≡ sum_by w (copies_put_out ready) + sum_by w o.parcel.finalizers
    next_weigh = full_or_not o.parcel.finalizers
        (λ some.
        let a = ap (λ os. sum_by w (copies_put_out os)) (full some) in
        let b = put_out-append ready (o ∷ []) w in
        let c = sum_by-append w o.parcel.finalizers [] in
        omega (arith, a, b, c))
        (λ none.
        let a = ap (λ os. sum_by w (copies_put_out os)) (empty none) in
        let b = ap (sum_by w) none in
        omega (arith, a, b))

pub put_begins : (was ready next : List Output) (o : Output) → ready ≡ was ++ drop (length was) ready → (o.parcel.finalizers ≢ [] → next ≡ ready ++ o ∷ []) → (o.parcel.finalizers ≡ [] → next ≡ ready) → next ≡ was ++ drop (length was) next
put_begins was ready next o begins full empty = full_or_not o.parcel.finalizers
    (λ some. begins_any was (drop (length was) ready ++ o ∷ []) next (full some ∙ ap (λ os. os ++ o ∷ []) begins ∙ append_assoc was (drop (length was) ready) (o ∷ [])))
    (λ none. begins_any was (drop (length was) ready) next (empty none ∙ begins))

pub named_rest : (old rest : List Output) (o : Output) → old ≡ o ∷ rest → All (NamesPorts 65) old → NamesPorts 65 o × All (NamesPorts 65) rest
named_rest old rest o is named =
    let all : All (NamesPorts 65) (o ∷ rest) = subst (All (NamesPorts 65)) is named in
    (all 0 o (omega arith), λ k d l. all (suc k) d (omega (arith, l)))

pub sound_next : (ready next : List Output) (o : Output) → NamesPorts 65 o → (o.parcel.finalizers ≢ [] → next ≡ ready ++ o ∷ []) → (o.parcel.finalizers ≡ [] → next ≡ ready) → All IsSound ready → All IsSound next
sound_next ready next o named full empty sound = full_or_not o.parcel.finalizers
    (λ some. subst (All IsSound) (sym (full some)) (All-append IsSound ready (o ∷ []) sound (All-cons IsSound o [] (record { filled = some; some = named.some; below = named.below }) (λ k d l. absurd (omega (arith, l))))))
    (λ none. subst (All IsSound) (sym (empty none)) sound)

-- BOTH
pub off_same : (taken left : List Parcel) (ready next : List Output) (old mid new : Shelved) (was gone : List Copy) → SameCopies (copies_put_out (ready ++ old.outputs)) (copies_put_out (next ++ mid.outputs)) → mid.dropped ≡ old.dropped →
    SameCopies (copies_dropped taken ++ (copies_dropped mid.dropped ++ was)) (copies_dropped left ++ (copies_dropped new.dropped ++ gone)) → new.outputs ≡ mid.outputs →
    SameCopies (copies_dropped taken ++ (copies_on (with_shelf ready old) ++ was)) (copies_dropped left ++ (copies_on (with_shelf next new) ++ gone))
off_same taken left ready next old mid new was gone put dropped discard outputs w =
    let a = put w in
    let b = discard w in
    let c = ap (λ ps. sum_by w (copies_dropped ps)) dropped in
    let d = ap (λ os. sum_by w (copies_put_out (next ++ os))) outputs in
    let e = sum_by-append w (copies_dropped taken) (copies_dropped mid.dropped ++ was) in
    let f = sum_by-append w (copies_dropped mid.dropped) was in
    let g = sum_by-append w (copies_dropped left) (copies_dropped new.dropped ++ gone) in
    let h = sum_by-append w (copies_dropped new.dropped) gone in
    let j = sum_by-append w (copies_dropped taken) (copies_on (with_shelf ready old) ++ was) in
    let k = sum_by-append w (copies_on (with_shelf ready old)) was in
    let l = sum_by-append w (copies_put_out (ready ++ old.outputs)) (copies_dropped old.dropped) in
    let m = sum_by-append w (copies_dropped left) (copies_on (with_shelf next new) ++ gone) in
    let n = sum_by-append w (copies_on (with_shelf next new)) gone in
    let o = sum_by-append w (copies_put_out (next ++ new.outputs)) (copies_dropped new.dropped) in
    omega (arith, a, b, c, d, e, f, g, h, j, k, l, m, n, o)
