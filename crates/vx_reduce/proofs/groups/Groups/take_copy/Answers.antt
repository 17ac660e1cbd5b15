use Rattle.std.proofs.Common.{◌≡◌, [], ◌∷◌, List, ap, subst}
use Rattle.std.specs.Prelude.{IfSome, IfNone}
use Rattle.std.specs.List.Sorted.{IsPermutation}
use Rattle.std.specs.Map.{values_of}
use Rattle.vx_reduce.specs.declared.group.Group.{Group}
use Rattle.vx_reduce.specs.Groups.{copies_held}
use Rattle.vx_reduce.proofs.Surrender.{none_weaker}
use Rattle.vx_reduce.proofs.groups.Groups.take_copy.Goals as goal

pub invariant_of-self : goal.invariant_of-self
invariant_of-self c = c.take_copy_from.ensures.indexed c.self.inside.next c.self.invariant

pub returns-clause-some : goal.returns-clause-some
returns-clause-some c = subst (λ (gs : List Group). IfSome c.take_copy_from.result (λ copy. IsPermutation (copies_held gs) (copy ∷ copies_held (values_of c.take_copy_from.new.entries.entries)))) c.self.view_is c.take_copy_from.ensures.some

pub returns-clause-none : goal.returns-clause-none
returns-clause-none c = subst (λ (gs : List Group). IfNone c.take_copy_from.result (copies_held gs ≡ [])) c.self.view_is c.take_copy_from.ensures.none

pub returns-clause-empty : goal.returns-clause-empty
returns-clause-empty c = none_weaker c.take_copy_from.result (λ e. ap values_of e) c.take_copy_from.ensures.empty
