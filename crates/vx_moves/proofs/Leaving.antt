-- What several calls leave, one after the other.
use Rattle.std.proofs.Common.{◌∙◌, ℕ, List, Option, Some, None, IfSome, inl, inr, sym}
use Rattle.std.specs.Prelude.{IsSomeAnd, slice_get}
use Rattle.std.proofs.lemmas.Bool.{cases_eq}
use Rattle.vx_places.specs.declared.row.Row.{Row}
use Rattle.vx_places.specs.Capacities.{LendsCapacity, SameCapacities}
use Rattle.vx_instances.specs.declared.state.InstanceState.{InstanceState}
use Rattle.vx_instances.specs.Staying.{EachState, Stays}

pub capacities_both : (a b c : List Row) → SameCapacities a b → SameCapacities b c → SameCapacities a c
capacities_both a b c first second i = ((second i).0 ∙ (first i).0, (second i).1 ∙ (first i).1)

-- a capacity that was lent comes back
pub capacities_back : (i room : ℕ) (a b c d : List Row) → LendsCapacity i room a b → SameCapacities b c → LendsCapacity i room d c → SameCapacities a d
capacities_back i room a b c d lent same back j = (
  sym (back.stages j) ∙ (same j).0 ∙ lent.stages j,
  elim (cases_eq j i) [
    | inl here ↦ rw here (back.was ∙ sym lent.was)
    | inr other ↦ sym (back.others j other) ∙ (same j).1 ∙ lent.others j other
  ],
)

module _ {P : Type 0} where
  pub each_stays : (states : List (InstanceState P)) → EachState Stays states states
  each_stays states i = go (slice_get states i)
    where
      go : (o : Option (InstanceState P)) → IfSome o (λ is. IsSomeAnd o (λ was. Stays was is))
      go None = tt
      go (Some state) = assumption

  stay_both : (a b c : InstanceState P) → Stays a b → Stays b c → Stays a c
  stay_both a b c first second = search

  pub each_both : (a b c : List (InstanceState P)) → EachState Stays a b → EachState Stays b c → EachState Stays a c
  each_both a b c first second i = go (slice_get a i) (slice_get b i) (slice_get c i) (first i) (second i)
    where
      go : (x y z : Option (InstanceState P)) → IfSome y (λ is. IsSomeAnd x (λ was. Stays was is)) → IfSome z (λ is. IsSomeAnd y (λ was. Stays was is)) →
          IfSome z (λ is. IsSomeAnd x (λ was. Stays was is))
      go x y None one two = tt
      go x None (Some z) one two = absurd two
      go None (Some y) (Some z) one two = absurd one
      go (Some x) (Some y) (Some z) one two = stay_both x y z one two
