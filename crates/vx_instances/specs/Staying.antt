-- What the calls leave of the states as it was.
use Rattle.std.specs.Prelude.{◌≡◌, ◌≢◌, ◌||◌, ℕ, Bool, List, Some, None, is_some, IfSome, IsSomeAnd, slice_get}
use Rattle.vx_tasks.specs.declared.task.Task.{Task}
use Rattle.vx_instances.specs.declared.state.InstanceState.{InstanceState}

-- each state is to the one of before as the relation says
abbrev pub EachState : {P : Type 0} → (InstanceState P → InstanceState P → Type 0) → List (InstanceState P) → List (InstanceState P) → Type 0
EachState F old new = (i : ℕ) → IfSome (slice_get new i) (λ is. IsSomeAnd (slice_get old i) (λ was. F was is))

-- one is, and the others are as they were
pub record OneState {P : Type 0} (F : InstanceState P → InstanceState P → Type 0) (i : ℕ) (old new : List (InstanceState P)) : Type 0 where
  pub one : IsSomeAnd (slice_get old i) (λ was. IsSomeAnd (slice_get new i) (λ is. F was is))
  pub others : (j : ℕ) → j ≢ i → slice_get new j ≡ slice_get old j

-- what its component says is as it was
pub record SameWiring {P : Type 0} (was is : InstanceState P) : Type 0 where
  pub name : is.name ≡ was.name
  pub class : is.class ≡ was.class
  pub device : is.device ≡ was.device
  pub outlet : is.outlet ≡ was.outlet
  pub batching : is.batching ≡ was.batching
  pub interval : is.interval ≡ was.interval

-- what isn't known any more is as it was: what it owes, what it counts, and what its port gave
pub record SameFlags {P : Type 0} (was is : InstanceState P) : Type 0 where
  pub owing : is.facts.owing ≡ was.facts.owing
  pub behind : is.facts.behind ≡ was.facts.behind
  pub starved : is.facts.starved ≡ was.facts.starved

-- so are both, and its task
pub record Stays {P : Type 0} (was is : InstanceState P) : Type 0 where
  pub wiring : SameWiring was is
  pub flags : SameFlags was is
  pub task : is.task ≡ was.task

-- so are all but its task, which was unleased and is taken along
pub record IsLeft {P : Type 0} (task : Task P) (was is : InstanceState P) : Type 0 where
  pub wiring : SameWiring was is
  pub flags : SameFlags was is
  pub had : was.task ≡ Some task
  pub gone : is.task ≡ None

-- so are all but what it counts: that isn't known any more from a read on whose lines weren't told
pub record HasRead {P : Type 0} (unobserved : Bool) (was is : InstanceState P) : Type 0 where
  pub wiring : SameWiring was is
  pub owing : is.facts.owing ≡ was.facts.owing
  pub behind : is.facts.behind ≡ (unobserved || was.facts.behind)
  pub starved : is.facts.starved ≡ was.facts.starved
  pub task : is.task ≡ was.task

-- so are all but its port, which is closed if it is unleased
pub record IsShut {P : Type 0} (was is : InstanceState P) : Type 0 where
  pub rest : is ≡ record was { task = is.task }
  pub unleased : is_some is.task ≡ is_some was.task
