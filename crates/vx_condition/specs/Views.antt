-- What the types of trees stand for.
use Rattle.vx_condition.specs.Trees as tree
use Rattle.vx_condition.specs.Trees.{disjunction_of, negated_times}
use Rattle.vx_condition.specs.declared.term.Atom.{Atom}
use Rattle.vx_condition.specs.declared.term.Atom.TheVariants.{Stated, Bracketed}
use Rattle.vx_condition.specs.declared.term.Term.{Term}

-- what an atom stands for
abbrev pub atom_view : Atom → tree.Term
atom_view (Stated p) = tree.stated p
atom_view (Bracketed d) = tree.bracketed (disjunction_of d)

-- what a term stands for
abbrev pub term_view : Term → tree.Term
term_view t = negated_times t.negations (atom_view t.atom)
