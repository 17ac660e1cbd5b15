use Rattle.std.proofs.Common.{◌≡◌, ◌++◌, drop}
use Rattle.std.specs.List.{flat_map}
use Rattle.vx_reading.specs.Plans.{strategy_in}
use Rattle.vx_reading.specs.Views.{pairs_view}
use Rattle.vx_reading.proofs.merging.strategies_in.Given as goal

-- what is left to add makes the list whole
abbrev pub invariant-loop-pair : goal.invariant-loop-pair
invariant-loop-pair l =
    l.strategies ++ flat_map strategy_in (pairs_view (drop l.pair-index l.pair-items)) ≡ flat_map strategy_in (pairs_view l.pair-items)
