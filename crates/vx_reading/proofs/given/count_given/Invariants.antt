use Rattle.std.proofs.Common.{◌≡◌, ◌+◌, ◌≤◌, drop}
use Rattle.vx_reading.specs.Judging.{count_given}
use Rattle.vx_reading.specs.Views.{place_view, givens_view}
use Rattle.vx_reading.proofs.given.count_given.Given as goal

-- those that are left make the count whole, and so many were counted at the most
abbrev pub invariant-loop-given : goal.invariant-loop-given
invariant-loop-given l =
    (l.count + count_given (place_view l.place) (givens_view (drop l.given-index l.all)) ≡ count_given (place_view l.place) (givens_view l.all))
    × (l.count ≤ l.given-index)
