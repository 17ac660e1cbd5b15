-- The tree of a condition: its branches, one of which has to hold, each with its terms, all of which have to hold.
use Rattle.std.specs.Prelude.{ℕ, zero, suc, List, [], ◌∷◌}
use Rattle.vx_condition.specs.declared.predicate.Predicate.{Predicate}

mutual
  -- what stands between two `&&`
  pub data Term : Type 0 where
    negated : Term → Term
    bracketed : Disjunction → Term
    stated : Predicate → Term

  -- terms joined by `&&`
  pub data Conjunction : Type 0 where
    no_term : Conjunction
    term : Term → Conjunction → Conjunction

  -- conjunctions joined by `||`, as a condition is
  pub data Disjunction : Type 0 where
    no_branch : Disjunction
    branch : Conjunction → Disjunction → Disjunction

-- the conjunction of the terms of a list
abbrev pub conjunction_of : List Term → Conjunction
conjunction_of [] = no_term
conjunction_of (t ∷ ts) = term t (conjunction_of ts)

-- the disjunction of the conjunctions of a list
abbrev pub disjunction_of : List (List Term) → Disjunction
disjunction_of [] = no_branch
disjunction_of (c ∷ cs) = branch (conjunction_of c) (disjunction_of cs)

-- a term behind that many `!`
abbrev pub negated_times : ℕ → Term → Term
negated_times zero t = t
negated_times (suc n) t = negated (negated_times n t)
