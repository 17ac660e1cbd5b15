-- The code of trees, by which a proof tells two of them apart.
use Rattle.std.specs.Prelude.{◌≡◌, refl}
use mathlib.Core.Path.{ap}
use Rattle.std.proofs.Common.{ap₂}
use Rattle.std.specs.Coded.{Coded}
use base.Stored.{Gv, gnil, gnum, gcons}
use Rattle.vx_condition.specs.Trees.{Term, negated, bracketed, stated, Conjunction, no_term, term, Disjunction, no_branch, branch}
use Rattle.vx_condition.specs.PredicateCode.{coded_predicate}

abbrev mutual
  code_term : Term → Gv
  code_term (negated t) = gcons (gnum 0) (code_term t)
  code_term (bracketed d) = gcons (gnum 1) (code_disjunction d)
  code_term (stated p) = gcons (gnum 2) (coded_predicate.code p)

  code_conjunction : Conjunction → Gv
  code_conjunction no_term = gnil
  code_conjunction (term t ts) = gcons (code_term t) (code_conjunction ts)

  code_disjunction : Disjunction → Gv
  code_disjunction no_branch = gnil
  code_disjunction (branch c cs) = gcons (code_conjunction c) (code_disjunction cs)

mutual
  pub same_terms : (s t : Term) → code_term s ≡ code_term t → s ≡ t
  same_terms (negated s) (negated t) e = ap negated (same_terms s t (cc))
  same_terms (bracketed c) (bracketed d) e = ap bracketed (same_disjunctions c d (cc))
  same_terms (stated p) (stated q) e = ap stated (coded_predicate.inj p q (cc))
  same_terms (negated s) (bracketed d) e = absurd (cc)
  same_terms (negated s) (stated q) e = absurd (cc)
  same_terms (bracketed c) (negated t) e = absurd (cc)
  same_terms (bracketed c) (stated q) e = absurd (cc)
  same_terms (stated p) (negated t) e = absurd (cc)
  same_terms (stated p) (bracketed d) e = absurd (cc)

  pub same_conjunctions : (c d : Conjunction) → code_conjunction c ≡ code_conjunction d → c ≡ d
  same_conjunctions no_term no_term e = refl
  same_conjunctions no_term (term t ts) e = absurd (cc)
  same_conjunctions (term s ss) no_term e = absurd (cc)
  same_conjunctions (term s ss) (term t ts) e = ap₂ term (same_terms s t (cc)) (same_conjunctions ss ts (cc))

  pub same_disjunctions : (c d : Disjunction) → code_disjunction c ≡ code_disjunction d → c ≡ d
  same_disjunctions no_branch no_branch e = refl
  same_disjunctions no_branch (branch d ds) e = absurd (cc)
  same_disjunctions (branch c cs) no_branch e = absurd (cc)
  same_disjunctions (branch c cs) (branch d ds) e = ap₂ branch (same_conjunctions c d (cc)) (same_disjunctions cs ds (cc))

abbrev pub coded_term : Coded Term
coded_term = record { code = code_term; inj = same_terms }
