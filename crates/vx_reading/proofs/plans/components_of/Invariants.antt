use Rattle.std.proofs.Common.{◌≡◌, ◌++◌, drop}
use Rattle.std.specs.List.{flat_map}
use Rattle.vx_reading.specs.Plans.{component_of}
use Rattle.vx_reading.specs.Views.{parts_view}
use Rattle.vx_reading.proofs.plans.components_of.Given as goal

-- what is left to add makes the list whole
abbrev pub invariant-loop-part : goal.invariant-loop-part
invariant-loop-part l =
    l.components ++ flat_map (component_of l.global) (parts_view (drop l.part-index l.all)) ≡ flat_map (component_of l.global) (parts_view l.all)
