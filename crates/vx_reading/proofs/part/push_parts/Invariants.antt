use Rattle.std.proofs.Common.{◌≡◌, ◌++◌, map, drop}
use Rattle.vx_reading.specs.Components.{part_in}
use Rattle.vx_reading.specs.Views.{pairs_view, parts_view}
use Rattle.vx_reading.proofs.part.push_parts.Given as goal

-- what is left to add makes the list whole
abbrev pub invariant-members : goal.invariant-members
invariant-members l =
    parts_view l.parts.items ++ map (part_in l.class) (pairs_view (drop l.pair-index l.pair-items))
    ≡ parts_view l.initial.parts.items ++ map (part_in l.class) (pairs_view l.pair-items)
