-- What stays of a list of different keys, at most so many, once one more comes.
use Rattle.std.proofs.Common.{◌≡◌, ℕ, zero, suc, ◌+◌, ◌≤◌, Bool, true, false, not, cond, List, [], ◌∷◌, take, refl, sym, ◌∙◌, ap, arith}
use Rattle.std.specs.Prelude.{◌||◌, count_by, filter}
use Rattle.std.specs.List.{list_any}
use Rattle.std.proofs.lemmas.List.Sums.{sum_by-cons}

module _ {K : Type 0} (same : K → K → Bool) (k : K) where
  -- without the first that is the same
  abbrev pub without_first : List K → List K
  without_first [] = []
  without_first (l ∷ ls) = cond (same k l) ls (l ∷ without_first ls)

  -- those that aren't
  abbrev pub others : List K → List K
  others ls = filter (λ l. not (same k l)) ls

  counts : (l : K) (ls : List K) → count_by (λ m. same k m) (l ∷ ls) ≡ cond (same k l) 1 0 + count_by (λ m. same k m) ls
  counts l ls = sum_by-cons (λ m. cond (same k m) 1 0) l ls

  -- one that is the same counts, and another doesn't
  pub counts_same : (l : K) (ls : List K) → same k l ≡ true → count_by (λ m. same k m) (l ∷ ls) ≡ 1 + count_by (λ m. same k m) ls
  counts_same l ls t = counts l ls ∙ ap (λ (b : Bool). cond b 1 0 + count_by (λ m. same k m) ls) t

  pub counts_other : (l : K) (ls : List K) → same k l ≡ false → count_by (λ m. same k m) (l ∷ ls) ≡ count_by (λ m. same k m) ls
  counts_other l ls t =
      let more : count_by (λ m. same k m) (l ∷ ls) ≡ 0 + count_by (λ m. same k m) ls =
      counts l ls ∙ ap (λ (b : Bool). cond b 1 0 + count_by (λ m. same k m) ls) t in omega arith

  -- where none is the same they all are others
  others_all : (ls : List K) → count_by (λ l. same k l) ls ≡ 0 → others ls ≡ ls
  others_all [] none = refl
  others_all (l ∷ ls) none =
      (elim (same k l) as (λ b. same k l ≡ b → cond (not b) (l ∷ others ls) (others ls) ≡ l ∷ ls) [
        | true ↦ λ t. absurd (omega (arith, none, counts_same l ls t))
        | false ↦ λ t. ap (λ (rest : List K). l ∷ rest) (others_all ls (sym (counts_other l ls t) ∙ none))
      ]) refl

  -- one that is there among the first goes from its place
  kept_without : (n : ℕ) (ls : List K) → count_by (λ l. same k l) ls ≤ 1 → list_any (λ l. same k l) (take (suc n) ls) ≡ true →
      without_first (take (suc n) ls) ≡ take n (others ls)
  kept_without n [] few found = cc
  kept_without zero (l ∷ ls) few found =
      (elim (same k l) as (λ b. (b || false) ≡ true → cond b [] (l ∷ []) ≡ []) [
        | true ↦ λ t. refl
        | false ↦ λ t. cc
      ]) found
  kept_without (suc n) (l ∷ ls) few found =
      (elim (same k l) as (λ b. same k l ≡ b → (b || list_any (λ m. same k m) (take (suc n) ls)) ≡ true →
      cond b (take (suc n) ls) (l ∷ without_first (take (suc n) ls)) ≡ take (suc n) (cond (not b) (l ∷ others ls) (others ls))) [
        | true ↦ λ t some. sym (ap (λ (rest : List K). take (suc n) rest) (others_all ls (omega (arith, few, counts_same l ls t))))
        | false ↦ λ t some. ap (λ (rest : List K). l ∷ rest) (kept_without n ls (omega (arith, few, counts_other l ls t)) some)
      ]) refl found

  -- where none of the first is the same, they are the first of the others
  kept_apart : (n m : ℕ) (ls : List K) → n ≤ m → list_any (λ l. same k l) (take m ls) ≡ false → take n (take m ls) ≡ take n (others ls)
  kept_apart zero m ls within none = refl
  kept_apart (suc n) zero ls within none = absurd (omega arith)
  kept_apart (suc n) (suc m) [] within none = refl
  kept_apart (suc n) (suc m) (l ∷ ls) within none =
      (elim (same k l) as (λ b. (b || list_any (λ x. same k x) (take m ls)) ≡ false →
      l ∷ take n (take m ls) ≡ take (suc n) (cond (not b) (l ∷ others ls) (others ls))) [
        | true ↦ λ t. cc
        | false ↦ λ t. ap (λ (rest : List K). l ∷ rest) (kept_apart n m ls (omega arith) t)
      ]) none

  -- so the first ones, with this one before them, are the first of this one and the others
  pub one_more : (most : ℕ) (ls : List K) → count_by (λ l. same k l) ls ≤ 1 →
      cond (list_any (λ l. same k l) (take most ls)) (k ∷ without_first (take most ls)) (take most (k ∷ take most ls)) ≡ take most (k ∷ others ls)
  one_more zero ls few = refl
  one_more (suc n) ls few = by (list_any (λ l. same k l) (take (suc n) ls)) refl
    where
      by : (b : Bool) → list_any (λ l. same k l) (take (suc n) ls) ≡ b →
          cond b (k ∷ without_first (take (suc n) ls)) (take (suc n) (k ∷ take (suc n) ls)) ≡ take (suc n) (k ∷ others ls)
      by true t = ap (λ (rest : List K). k ∷ rest) (kept_without n ls few t)
      by false t = ap (λ (rest : List K). k ∷ rest) (kept_apart n (suc n) ls (omega arith) t)
