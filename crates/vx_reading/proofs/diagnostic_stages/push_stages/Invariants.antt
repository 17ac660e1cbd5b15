use Rattle.std.proofs.Common.{◌≡◌, ◌++◌, drop}
use Rattle.toml.specs.View.{items_view}
use Rattle.vx_reading.specs.Diagnostics.{buffer_diagnostics}
use Rattle.vx_reading.specs.Judging.{items_in}
use Rattle.vx_reading.specs.Views.{owner_view}
use Rattle.vx_reading.proofs.diagnostic_stages.push_stages.Given as goal

-- what is left to add makes the list whole
abbrev pub invariant-loop-i : goal.invariant-loop-i
invariant-loop-i l =
    l.diagnostics ++ buffer_diagnostics (owner_view l.spot.owner) l.spot.lead.now (items_in (items_view (drop l.i l.stages)))
    ≡ l.initial.diagnostics ++ buffer_diagnostics (owner_view l.spot.owner) l.spot.lead.now (items_in (items_view l.stages))
