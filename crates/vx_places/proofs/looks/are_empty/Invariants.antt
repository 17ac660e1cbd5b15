use Rattle.std.proofs.Common.{◌≡◌, ◌<◌, ℕ, []}
use Rattle.vx_places.specs.Views.{stage_at, stage_items}
use Rattle.vx_places.proofs.looks.are_empty.Given as goal

abbrev pub invariant-loop-stage : goal.invariant-loop-stage
invariant-loop-stage l = (s : ℕ) → s < l.stage-index → stage_items (stage_at l.stages s) ≡ []
