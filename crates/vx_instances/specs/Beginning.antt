-- States as they begin.
use Rattle.std.specs.Prelude.{◌≡◌, ◌≢◌, ℕ, Bool, false, List, [], length, map, None, IfSome, IsSomeAnd, slice_get}
use Rattle.vx_ends.specs.Observation.{Observation}
use Rattle.vx_plan.specs.declared.plan.Plan.{Plan}
use Rattle.vx_plan.specs.declared.component.Component.{Component}
use Rattle.vx_plan.specs.Components.{port_names}
use Rattle.vx_plan.specs.Numbers.{reader_numbers}
use Rattle.vx_record.specs.Copies.{counting}
use Rattle.vx_plan.specs.Targets.{acknowledged}
use Rattle.vx_record.specs.Wirings.{begun}
use Rattle.vx_counts.specs.Meets.{Meets}
use Rattle.vx_sourcecore.specs.Prefixes.{Judgement, IsPrefixOf}
use Rattle.vx_tasks.specs.declared.task.Role.TheVariants.{Unfit}
use Rattle.vx_tasks.specs.Unleased.{StandsAt, IsTaskOf}
use Rattle.vx_instances.specs.declared.facts.Facts.{Facts}
use Rattle.vx_instances.specs.declared.progress.Progress.{Progress}
use Rattle.vx_instances.specs.declared.state.InstanceState.{InstanceState}
use Rattle.vx_instances.specs.Knowing.{IsFittedTo}

-- nothing happened yet, and all is known
pub record AreNew (f : Facts) : Type 0 where
  pub over : f.over ≡ false
  pub lost : f.lost ≡ None
  pub failed_starts : f.failed_starts ≡ 0
  pub confirm_failed : f.confirm_failed ≡ false
  pub closed : f.closed ≡ false
  pub retired : f.retired ≡ false
  pub leased_at : f.leased_at ≡ 0
  pub reads_from : f.reads_from ≡ 0
  pub owing : f.owing ≡ false
  pub behind : f.behind ≡ false
  pub starved : f.starved ≡ false

-- nothing was born, and the batches will wait as the plan says
pub record HasNoBatches (p : Progress) (waits : Bool) : Type 0 where
  pub unnoticed : p.unnoticed ≡ 0
  pub waits_are : p.prefix.waits ≡ waits
  pub prefix : (judged : Judgement) → IsPrefixOf p.prefix judged [] []

-- a state as it begins, for a component of a plan: its task is there, as a record has it that begins with the plan, for files
-- that end with what they have or go on, is fit for work, and keeps nothing of an event
pub record IsFresh {P : Type 0} (observe : P → Observation) (plan : Plan) (once : Bool) (i : ℕ) (state : InstanceState P) (c : Component) : Type 0 where
  pub fitted : IsFittedTo state c
  pub outlet : state.outlet ≡ map (reader_numbers plan c.name) (counting 0 (length (port_names c)))
  pub facts : AreNew state.facts
  pub progress : HasNoBatches state.progress (acknowledged plan c.name)
  pub counts : Meets i [] state.counts.tally
  pub unleased : IsSomeAnd state.task (λ task. (now : ℕ) → IsTaskOf observe (begun plan once now) i task)
  pub fit : IfSome state.task (λ task. task.role ≢ Unfit)
  pub kept : IfSome state.task (λ task. StandsAt task.role [])

-- a state for each component, in the plan's order
pub record AreFresh {P : Type 0} (observe : P → Observation) (plan : Plan) (once : Bool) (states : List (InstanceState P)) : Type 0 where
  pub size : length states ≡ length plan.components
  pub each : (i : ℕ) → IfSome (slice_get states i) (λ state. IsSomeAnd (slice_get plan.components i) (IsFresh observe plan once i state))
