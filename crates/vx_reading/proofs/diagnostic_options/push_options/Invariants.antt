use Rattle.std.proofs.Common.{◌≡◌, ◌++◌, drop}
use Rattle.std.specs.List.{flat_map}
use Rattle.vx_reading.specs.Diagnostics.{row_diagnostics}
use Rattle.vx_reading.specs.Views.{owner_view, rows_view, givens_view}
use Rattle.vx_reading.proofs.diagnostic_options.push_options.Given as goal

-- what is left to add makes the list whole
abbrev pub invariant-loop-row : goal.invariant-loop-row
invariant-loop-row l =
    l.diagnostics ++ flat_map (row_diagnostics (owner_view l.spot.owner) l.spot.lead.now (givens_view l.all)) (rows_view (drop l.row-index l.rows))
    ≡ l.initial.diagnostics ++ flat_map (row_diagnostics (owner_view l.spot.owner) l.spot.lead.now (givens_view l.all)) (rows_view l.rows)
