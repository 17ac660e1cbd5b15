use Rattle.std.proofs.Common.{◌≡◌, true, map, drop}
use Rattle.vx_condition.specs.Meaning.{conjunction_holds, is_free_conjunction, disjunction_holds, is_free_disjunction}
use Rattle.vx_condition.specs.Trees.{conjunction_of, disjunction_of}
use Rattle.vx_condition.specs.Views.{term_view}
use Rattle.vx_condition.proofs.+holds.Given as goal

abbrev pub invariant-conjunction::Conjunction::holds-loop-term : goal.invariant-conjunction::Conjunction::holds-loop-term
invariant-conjunction::Conjunction::holds-loop-term l = record {
  value : conjunction_holds (conjunction_of (map term_view l.term-items)) l.event.fields ≡ conjunction_holds (conjunction_of (map term_view (drop l.term-index l.term-items))) l.event.fields;
  lean : is_free_conjunction (conjunction_of (map term_view l.term-items)) ≡ true → is_free_conjunction (conjunction_of (map term_view (drop l.term-index l.term-items))) ≡ true;
}

abbrev pub invariant-disjunction::Disjunction::holds-loop-branch : goal.invariant-disjunction::Disjunction::holds-loop-branch
invariant-disjunction::Disjunction::holds-loop-branch l = record {
  value : disjunction_holds (disjunction_of l.branch-items) l.event.fields ≡ disjunction_holds (disjunction_of (drop l.branch-index l.branch-items)) l.event.fields;
  lean : is_free_disjunction (disjunction_of l.branch-items) ≡ true → is_free_disjunction (disjunction_of (drop l.branch-index l.branch-items)) ≡ true;
}
