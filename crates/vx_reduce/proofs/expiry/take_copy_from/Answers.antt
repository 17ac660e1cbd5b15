use Rattle.std.proofs.Common.{◌∷◌, List, drop, ◌∙◌, ap, subst}
use Rattle.std.specs.List.Sorted.{IsPermutation}
use Rattle.std.specs.Map.{values_of}
use Rattle.vx_ledger.specs.Copies.{Copy}
use Rattle.vx_reduce.specs.Groups.{copies_held}
use Rattle.vx_reduce.proofs.Surrender.{took, indexed_took, same_without, shorter}
use Rattle.vx_reduce.proofs.expiry.take_copy_from.Goals as goal

pub returns-in-Some-take_copy_at-clause-indexed : goal.returns-in-Some-take_copy_at-clause-indexed
returns-in-Some-take_copy_at-clause-indexed c next i =
    indexed_took c.in-Some-take_copy_at.copy c.groups.index.entries c.groups.entries.entries c.take_copy_at.new.entries.entries next c.in-Some-take_copy_at.ensures.some (c.groups.invariant.indexed next i)

pub returns-in-Some-take_copy_at-clause-some : goal.returns-in-Some-take_copy_at-clause-some
returns-in-Some-take_copy_at-clause-some c =
    subst (λ (l : List Copy). IsPermutation l (c.in-Some-take_copy_at.copy ∷ copies_held (values_of c.take_copy_at.new.entries.entries))) c.groups.invariant.same
    (took c.in-Some-take_copy_at.copy c.groups.entries.entries c.take_copy_at.new.entries.entries c.in-Some-take_copy_at.ensures.some)

pub end_first-requires : goal.end_first-requires
end_first-requires c = rw c.in_default-take_copy_at.ensures.same c.in_default-take_copy_at.ensures.none

pub groups-smaller : goal.groups-smaller
groups-smaller c = rw (c.end_first.ensures.entries, c.in_default-take_copy_at.ensures.same) (shorter c.groups.entries.entries c.in_default-take_copy_at.ensures.none)

pub groups-preserved : goal.groups-preserved
groups-preserved c = record {
  indexed = λ next i. c.end_first.ensures.indexed next (rw c.in_default-take_copy_at.ensures.same (c.groups.invariant.indexed next i));
  same = ap (λ es. copies_held (values_of es)) (c.end_first.ensures.entries ∙ ap (λ es. drop 1 es) c.in_default-take_copy_at.ensures.same) ∙ same_without c.groups.entries.entries c.in_default-take_copy_at.ensures.none ∙ c.groups.invariant.same;
}
