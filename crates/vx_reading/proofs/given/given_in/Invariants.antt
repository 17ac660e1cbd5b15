use Rattle.std.proofs.Common.{◌≡◌, ◌++◌, drop}
use Rattle.vx_reading.specs.Judging.{given}
use Rattle.vx_reading.specs.Views.{rows_view, pairs_view, givens_view}
use Rattle.vx_reading.proofs.given.given_in.Given as goal

-- what is left to add makes the list whole
abbrev pub invariant-loop-pair : goal.invariant-loop-pair
invariant-loop-pair l =
    givens_view l.all.items ++ given (rows_view l.rows) (pairs_view (drop l.pair-index l.pairs))
    ≡ given (rows_view l.rows) (pairs_view l.pairs)
