use Rattle.std.proofs.Common.{◌≡◌, ◌++◌, map, drop}
use Rattle.vx_reading.specs.Plans.{way_of}
use Rattle.vx_reading.specs.Views.{pairs_view}
use Rattle.vx_reading.proofs.plans.ways_in.Given as goal

-- what is left to add makes the list whole
abbrev pub invariant-loop-pair : goal.invariant-loop-pair
invariant-loop-pair l = l.ways ++ map way_of (pairs_view (drop l.pair-index l.pair-items)) ≡ map way_of (pairs_view l.pair-items)
