use Rattle.std.proofs.Common.{◌≡◌, ◌++◌, drop}
use Rattle.std.specs.List.{flat_map}
use Rattle.toml.specs.View.{items_view}
use Rattle.vx_reading.specs.Judging.{items_in}
use Rattle.vx_reading.specs.Plans.{path_in}
use Rattle.vx_reading.proofs.fields.paths_of.Given as goal

-- what is left to add makes the list whole
abbrev pub invariant-loop-value : goal.invariant-loop-value
invariant-loop-value l =
    l.paths ++ flat_map path_in (items_in (items_view (drop l.value-index l.values))) ≡ flat_map path_in (items_in (items_view l.values))
