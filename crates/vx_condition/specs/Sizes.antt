-- How large a tree is, so that a tree inside another is smaller.
use Rattle.std.specs.Prelude.{ℕ, ◌+◌, max}
use Rattle.vx_condition.specs.Trees.{Term, negated, bracketed, stated, Conjunction, no_term, term, Disjunction, no_branch, branch}

abbrev mutual
  pub term_size : Term → ℕ
  term_size (negated t) = term_size t
  term_size (bracketed d) = 2 + disjunction_size d
  term_size (stated p) = 0

  -- the size of the largest term, or 0 with none
  pub conjunction_size : Conjunction → ℕ
  conjunction_size no_term = 0
  conjunction_size (term t ts) = max (term_size t) (conjunction_size ts)

  -- one more than the size of the largest branch, or 0 with none
  pub disjunction_size : Disjunction → ℕ
  disjunction_size no_branch = 0
  disjunction_size (branch c cs) = max (1 + conjunction_size c) (disjunction_size cs)
