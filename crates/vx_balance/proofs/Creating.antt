-- An instance created none of the open batches exactly where each batch of it is noticed.
use Rattle.std.proofs.Common.{◌≡◌, ℕ, ◌+◌, Bool, true, false, List, [], ◌∷◌, ◌++◌, refl, sym, ap, ◌∙◌, arith}
use Rattle.std.specs.Prelude.{◌==◌, ◌&&◌, ◌↔◌, if◌then◌else◌}
use Rattle.std.specs.List.{list_all}
use Rattle.vx_record.specs.Records.{Record}
use Rattle.vx_record.specs.declared.entry.Entry.TheVariants.{Born}
use Rattle.vx_record.specs.Confirms.{Birth, births, births_in, is_noticed}
use Rattle.vx_balance.specs.Births.{Batch, born, without_notice, created_by}
use Rattle.vx_balance.specs.Promises.{NoneCreated}

-- how many of some births have no notice
abbrev open_of : Record → List Birth → ℕ
open_of h [] = 0
open_of h (x ∷ xs) = (if is_noticed h x.batch then 0 else 1) + open_of h xs

open_more : (h : Record) (xs ys : List Birth) → open_of h (xs ++ ys) ≡ open_of h xs + open_of h ys
open_more h [] ys = omega arith
open_more h (x ∷ xs) ys = let rest = open_more h xs ys in omega (arith, rest)

created_more : (h : Record) (i : ℕ) (xs : List Batch) (x : Batch) → created_by i (without_notice h (xs ++ x ∷ [])) ≡ created_by i (without_notice h xs) + created_by i (without_notice h (x ∷ []))
created_more h i [] x = omega arith
created_more h i (y ∷ ys) x = go (is_noticed h y.number) (created_more h i ys x)
  where
    go : (t : Bool) → created_by i (without_notice h (ys ++ x ∷ [])) ≡ created_by i (without_notice h ys) + created_by i (without_notice h (x ∷ [])) →
        created_by i (if t then without_notice h (ys ++ x ∷ []) else y ∷ without_notice h (ys ++ x ∷ [])) ≡ created_by i (if t then without_notice h ys else y ∷ without_notice h ys) + created_by i (without_notice h (x ∷ []))
    go true ih = ih
    go false ih = omega (arith, ih)

-- as many of the open batches are an instance's as of its births have no notice
created_open : (h k : Record) (i : ℕ) → created_by i (without_notice h (born k)) ≡ open_of h (births k i)
created_open h [] i = refl
created_open h (Born j b place copies events waits stream end ∷ k) i =
    let rest = created_open h k i in
    let more = created_more h i (born k) (record { number = b; creator = j }) in
    let split = open_more h (births k i) (births_in i (Born j b place copies events waits stream end)) in
    let one = last (is_noticed h b) (j == i) refl refl in
    omega (arith, rest, more, split, one)
  where
    last : (n t : Bool) → is_noticed h b ≡ n → (j == i) ≡ t → created_by i (if n then [] else record { number = b; creator = j } ∷ []) ≡ open_of h (if t then record { batch = b; waits = waits; stream = stream; end = end } ∷ [] else [])
    last true true m e = sym (ap {B = ℕ} (λ x. (if x then 0 else 1) + 0) m)
    last true false m e = refl
    last false true m e = ap {B = ℕ} (λ x. (if x then 1 else 0) + 0) e ∙ sym (ap {B = ℕ} (λ x. (if x then 0 else 1) + 0) m)
    last false false m e = ap {B = ℕ} (λ x. (if x then 1 else 0) + 0) e
created_open h (e ∷ k) i = let rest = created_open h k i in let more = open_more h (births k i) [] in omega (arith, rest, more)

all_where_none : (h : Record) (xs : List Birth) → (open_of h xs ≡ 0) ↔ (list_all (λ (birth : Birth). is_noticed h birth.batch) xs ≡ true)
all_where_none h [] = (λ e. refl, λ e. refl)
all_where_none h (x ∷ xs) = go (is_noticed h x.batch) (all_where_none h xs)
  where
    go : (t : Bool) → (open_of h xs ≡ 0) ↔ (list_all (λ (birth : Birth). is_noticed h birth.batch) xs ≡ true) →
        ((if t then 0 else 1) + open_of h xs ≡ 0) ↔ ((t && list_all (λ (birth : Birth). is_noticed h birth.batch) xs) ≡ true)
    go true ih = (λ e. ih.0 (omega (arith, e)), λ e. let none = ih.1 e in omega (arith, none))
    go false ih = (λ e. absurd (omega (arith, e)), λ e. cc)

pub none_created : NoneCreated
none_created account h i was =
    let all = all_where_none h (births h i) in
    let same = ap (created_by i) was.opens ∙ created_open h h i in
    (λ e. all.0 (sym same ∙ e), λ e. same ∙ all.1 e)
