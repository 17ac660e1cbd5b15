-- The conditions of the grammar, and what one says of an event.
use Rattle.std.specs.Prelude.{◌≡◌, ℕ, suc, ◌≤◌, max, Bool, true, List}
use Rattle.vx_value.specs.Texts.{ByteString}
use Rattle.vx_value.specs.Datum.{NamedDatum}
use Rattle.vx_condition.specs.Trees.{Term, negated, bracketed, stated, Conjunction, no_term, term, Disjunction, no_branch, branch}
use Rattle.vx_condition.specs.Meaning.{disjunction_holds, is_free_disjunction}
use Rattle.vx_condition.specs.Grammar.{IsDisjunctionText}

abbrev mutual
  -- how many `!` and brackets are open at the deepest place of a term; those of calls and of `!=` don't count
  pub term_levels : Term → ℕ
  term_levels (negated t) = suc (term_levels t)
  term_levels (bracketed d) = suc (disjunction_levels d)
  term_levels (stated p) = 0

  pub conjunction_levels : Conjunction → ℕ
  conjunction_levels no_term = 0
  conjunction_levels (term t ts) = max (term_levels t) (conjunction_levels ts)

  pub disjunction_levels : Disjunction → ℕ
  disjunction_levels no_branch = 0
  disjunction_levels (branch c cs) = max (conjunction_levels c) (disjunction_levels cs)

-- a text is a condition with that tree, of 32 levels at most
pub record IsCondition (tree : Disjunction) (text : ByteString) : Type 0 where
  pub spelled : IsDisjunctionText tree text
  pub shallow : disjunction_levels tree ≤ 32

-- the condition that a text is says so of an event's fields
pub record Says (text : ByteString) (fields : List NamedDatum) (holds : Bool) : Type 0 where
  pub tree : Disjunction
  pub condition : IsCondition tree text
  pub meant : holds ≡ disjunction_holds tree fields

-- the condition that a text is has no match in it
abbrev pub IsMatchFree : ByteString → Type 0
IsMatchFree text = (tree : Disjunction) → IsCondition tree text → is_free_disjunction tree ≡ true
