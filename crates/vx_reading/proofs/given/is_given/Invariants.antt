use Rattle.std.proofs.Common.{◌≡◌, drop}
use Rattle.vx_reading.specs.Judging.{is_given}
use Rattle.vx_reading.specs.Views.{place_view, givens_view}
use Rattle.vx_reading.proofs.given.is_given.Given as goal

-- the options that are left say what all say
abbrev pub invariant-loop-given : goal.invariant-loop-given
invariant-loop-given l =
    is_given (place_view l.place) (givens_view (drop l.given-index l.all)) ≡ is_given (place_view l.place) (givens_view l.all)
