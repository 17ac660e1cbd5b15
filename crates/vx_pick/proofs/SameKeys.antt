-- Keys are the same where the values that stand for them are.
use Rattle.std.proofs.Common.{◌≡◌, ◌≤◌, Bool, true, false, not, cond, List, [], ◌∷◌, map, Option, Some, None, refl, sym, ◌∙◌, ap, arith}
use Rattle.std.specs.Prelude.{◌&&◌, count_by, filter}
use Rattle.std.specs.declared.cmp.Ordering.{Ordering}
use Rattle.std.specs.declared.cmp.Ordering.TheVariants.{Less, Equal, Greater}
use Rattle.std.specs.Ordering.{is_eq, ordering_then}
use Rattle.vx_value.specs.Datum.{Datum, data_of}
use Rattle.vx_value.specs.Orders.{datum_cmp, data_cmp}
use Rattle.vx_condition.specs.Picking.{Key, values, fields, same_value, same_values, same_key, distinct}
use Rattle.vx_pick.specs.Keys.{key_item, key_datum}
use Rattle.vx_pick.specs.Alike.{one_value}
use Rattle.vx_pick.specs.Dedupers.{same_datum}
use Rattle.vx_pick.proofs.Latest.{counts_same, counts_other}

then_end : (o : Ordering) → is_eq (ordering_then o Equal) ≡ is_eq o
then_end Less = refl
then_end Equal = refl
then_end Greater = refl

then_both : (o r : Ordering) → is_eq (ordering_then o r) ≡ (is_eq o && is_eq r)
then_both Less r = refl
then_both Equal r = refl
then_both Greater r = refl

item_same : (d e : Option Datum) → is_eq (datum_cmp (key_item d) (key_item e)) ≡ same_value d e
item_same None None = refl
item_same None (Some e) = refl
item_same (Some d) None = refl
item_same (Some d) (Some e) = then_end (datum_cmp d e)

items_same : (ds es : List (Option Datum)) → is_eq (data_cmp (data_of (map key_item ds)) (data_of (map key_item es))) ≡ same_values ds es
items_same [] [] = refl
items_same [] (e ∷ es) = refl
items_same (d ∷ ds) [] = refl
items_same (d ∷ ds) (e ∷ es) =
    then_both (datum_cmp (key_item d) (key_item e)) (data_cmp (data_of (map key_item ds)) (data_of (map key_item es)))
    ∙ (λ i. item_same d e i && items_same ds es i)

pub same_as : (k l : Key) → same_datum (key_datum k) (key_datum l) ≡ same_key k l
same_as (values ds) (values es) = items_same ds es
same_as (values ds) (fields gs) = refl
same_as (fields fs) (values es) = refl
same_as (fields fs) (fields gs) = refl

-- what is the same as one of two that are the same is so as the other
alike : (k l : Key) → same_key k l ≡ true → (m : Key) → same_key k m ≡ same_key l m
alike k l t m =
    let one : key_datum k ≡ key_datum l = one_value (key_datum k) (key_datum l) (same_as k l ∙ t) in
    sym (same_as k m) ∙ ap (λ (d : Datum). same_datum d (key_datum m)) one ∙ same_as l m

none_left : (k d : Key) → ((m : Key) → same_key k m ≡ same_key d m) → (ls : List Key) →
    count_by (λ l. same_key k l) (filter (λ l. not (same_key d l)) ls) ≡ 0
none_left k d like [] = refl
none_left k d like (l ∷ ls) =
    (elim (same_key d l) as (λ b. same_key d l ≡ b →
    count_by (λ m. same_key k m) (cond (not b) (l ∷ filter (λ m. not (same_key d m)) ls) (filter (λ m. not (same_key d m)) ls)) ≡ 0) [
      | true ↦ λ t. none_left k d like ls
      | false ↦ λ t. counts_other same_key k l (filter (λ m. not (same_key d m)) ls) (like l ∙ t) ∙ none_left k d like ls
    ]) refl

with_one : (k l : Key) (fs ls : List Key) → count_by (λ m. same_key k m) fs ≤ count_by (λ m. same_key k m) ls →
    count_by (λ m. same_key k m) (l ∷ fs) ≤ count_by (λ m. same_key k m) (l ∷ ls)
with_one k l fs ls few = by (same_key k l) refl
  where
    by : (b : Bool) → same_key k l ≡ b → count_by (λ m. same_key k m) (l ∷ fs) ≤ count_by (λ m. same_key k m) (l ∷ ls)
    by true t = omega (arith, few, counts_same same_key k l fs t, counts_same same_key k l ls t)
    by false t = omega (arith, few, counts_other same_key k l fs t, counts_other same_key k l ls t)

without_one : (k l : Key) (fs ls : List Key) → count_by (λ m. same_key k m) fs ≤ count_by (λ m. same_key k m) ls →
    count_by (λ m. same_key k m) fs ≤ count_by (λ m. same_key k m) (l ∷ ls)
without_one k l fs ls few = by (same_key k l) refl
  where
    by : (b : Bool) → same_key k l ≡ b → count_by (λ m. same_key k m) fs ≤ count_by (λ m. same_key k m) (l ∷ ls)
    by true t = omega (arith, few, counts_same same_key k l ls t)
    by false t = omega (arith, few, counts_other same_key k l ls t)

fewer : (k : Key) (p : Key → Bool) (ls : List Key) → count_by (λ l. same_key k l) (filter p ls) ≤ count_by (λ l. same_key k l) ls
fewer k p [] = omega arith
fewer k p (l ∷ ls) =
    elim (p l) as (λ b. count_by (λ m. same_key k m) (cond b (l ∷ filter p ls) (filter p ls)) ≤ count_by (λ m. same_key k m) (l ∷ ls)) [
      | true ↦ with_one k l (filter p ls) ls (fewer k p ls)
      | false ↦ without_one k l (filter p ls) ls (fewer k p ls)
    ]

-- among different keys each is at most once
pub once : (k : Key) (ks : List Key) → count_by (λ l. same_key k l) (distinct ks) ≤ 1
once k [] = omega arith
once k (d ∷ ks) =
    (elim (same_key k d) as (λ b. same_key k d ≡ b → count_by (λ l. same_key k l) (d ∷ filter (λ l. not (same_key d l)) (distinct ks)) ≤ 1) [
      | true ↦ λ t. omega (arith, counts_same same_key k d (filter (λ l. not (same_key d l)) (distinct ks)) t, none_left k d (alike k d t) (distinct ks))
      | false ↦ λ t.
          omega (arith, counts_other same_key k d (filter (λ l. not (same_key d l)) (distinct ks)) t, fewer k (λ l. not (same_key d l)) (distinct ks), once k ks)
    ]) refl
