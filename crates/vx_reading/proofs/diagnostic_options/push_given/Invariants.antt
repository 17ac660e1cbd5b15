use Rattle.std.proofs.Common.{◌≡◌, ◌++◌, drop}
use Rattle.vx_reading.specs.Diagnostics.{given_diagnostics}
use Rattle.vx_reading.specs.Views.{owner_view, rows_view, givens_view}
use Rattle.vx_reading.proofs.diagnostic_options.push_given.Given as goal

-- what is left to add makes the list whole
abbrev pub invariant-loop-given : goal.invariant-loop-given
invariant-loop-given l =
    l.diagnostics ++ given_diagnostics (owner_view l.spot.owner) l.spot.lead.now (rows_view l.rows) (givens_view (drop l.given-index l.all))
    ≡ l.initial.diagnostics ++ given_diagnostics (owner_view l.spot.owner) l.spot.lead.now (rows_view l.rows) (givens_view l.all)
