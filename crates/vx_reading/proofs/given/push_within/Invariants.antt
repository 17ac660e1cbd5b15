use Rattle.std.proofs.Common.{◌≡◌, ◌++◌, map, drop}
use Rattle.vx_reading.specs.Judging.{within}
use Rattle.vx_reading.specs.Views.{pairs_view, givens_view}
use Rattle.vx_reading.proofs.given.push_within.Given as goal

-- what is left to add makes the list whole
abbrev pub invariant-loop-pair : goal.invariant-loop-pair
invariant-loop-pair l =
    givens_view l.all.items ++ map (within l.group) (pairs_view (drop l.pair-index l.pairs))
    ≡ givens_view l.initial.all.items ++ map (within l.group) (pairs_view l.pairs)
