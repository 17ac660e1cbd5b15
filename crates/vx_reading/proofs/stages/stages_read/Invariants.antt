use Rattle.std.proofs.Common.{◌≡◌, ◌++◌, map, drop}
use Rattle.toml.specs.View.{items_view}
use Rattle.vx_reading.specs.Judging.{items_in}
use Rattle.vx_reading.specs.Stages.{stage_of}
use Rattle.vx_reading.proofs.stages.stages_read.Given as goal

-- what is left to add makes the list whole
abbrev pub invariant-loop-value : goal.invariant-loop-value
invariant-loop-value l =
    l.stages ++ map stage_of (items_in (items_view (drop l.value-index l.given))) ≡ map stage_of (items_in (items_view l.given))
