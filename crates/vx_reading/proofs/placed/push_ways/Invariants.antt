use Rattle.std.proofs.Common.{◌≡◌, ◌++◌, map, drop}
use Rattle.vx_reading.specs.Conditions.{placed_way}
use Rattle.vx_reading.specs.Views.{all_placed_view}
use Rattle.vx_reading.proofs.placed.push_ways.Given as goal

-- what is left to add makes the list whole
abbrev pub invariant-loop-way : goal.invariant-loop-way
invariant-loop-way l =
    all_placed_view l.all.items ++ map placed_way (drop l.way-index l.way-items)
    ≡ all_placed_view l.initial.all.items ++ map placed_way l.way-items
