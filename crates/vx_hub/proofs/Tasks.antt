-- Which tasks stay unleased.
use Rattle.std.proofs.Common.{Option, Some, None, IfSome}
use Rattle.std.specs.Prelude.{IsSomeAnd}
use Rattle.vx_instances.specs.declared.state.InstanceState.{InstanceState}
use Rattle.vx_instances.specs.Staying.{Stays}
use Rattle.vx_hub.specs.Standing.{SameTask}

module _ {P : Type 0} where
  pub keeps_task : (o n : Option (InstanceState P)) → IfSome n (λ is. IsSomeAnd o (λ was. Stays was is)) → IfSome n (λ is. IsSomeAnd o (λ was. SameTask was is))
  keeps_task o None stays = tt
  keeps_task None (Some is) stays = absurd stays
  keeps_task (Some was) (Some is) stays = stays.task
