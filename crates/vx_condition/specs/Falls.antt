-- A tree inside another is smaller.
use Rattle.std.specs.Prelude.{◌≡◌, ℕ, zero, suc, ◌+◌, ◌≤◌, List, [], ◌∷◌, map, refl}
use Rattle.std.proofs.Common.{arith}
use denote.Param.Weighed.{most}
use Rattle.vx_condition.specs.declared.conjunction.Conjunction.TheDeep.{deep-Term, deep-Atom}
use Rattle.vx_condition.specs.declared.term.Term.{Term}
use Rattle.vx_condition.specs.declared.term.Atom.{Atom}
use Rattle.vx_condition.specs.declared.term.Atom.TheVariants.{Stated, Bracketed}
use Rattle.vx_condition.specs.Trees as tree
use Rattle.vx_condition.specs.Trees.{conjunction_of, disjunction_of, negated_times}
use Rattle.vx_condition.specs.Sizes.{term_size, conjunction_size, disjunction_size}
use Rattle.vx_condition.specs.Views.{term_view, atom_view}

negations-size : (n : ℕ) (t : tree.Term) → term_size (negated_times n t) ≡ term_size t
negations-size zero t = refl
negations-size (suc n) t = negations-size n t

deep-Atom-le : (a : Atom) → deep-Atom a ≤ 1 + term_size (atom_view a)
deep-Atom-le (Stated p) = omega arith
deep-Atom-le (Bracketed d) = omega arith

deep-Term-le : (t : Term) → deep-Term t ≤ 1 + term_size (term_view t)
deep-Term-le t = omega (arith, deep-Atom-le t.atom, negations-size t.negations (atom_view t.atom))

pub most-terms : (ts : List Term) → most (λ t. deep-Term t) ts ≤ 1 + conjunction_size (conjunction_of (map term_view ts))
most-terms [] = omega arith
most-terms (t ∷ ts) = omega (arith, deep-Term-le t, most-terms ts)

pub most-branches : (cs : List (List tree.Term)) → most (λ c. 1 + conjunction_size (conjunction_of c) + 1) cs ≤ 1 + disjunction_size (disjunction_of cs)
most-branches [] = omega arith
most-branches (c ∷ cs) = omega (arith, most-branches cs)
