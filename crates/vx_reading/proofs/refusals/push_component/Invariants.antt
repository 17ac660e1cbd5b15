use Rattle.std.proofs.Common.{◌≡◌, ◌++◌, drop}
use Rattle.std.specs.List.{flat_map}
use Rattle.vx_reading.specs.Conditions.{refusal}
use Rattle.vx_reading.specs.Refused.{is_kept}
use Rattle.vx_reading.specs.Views.{all_placed_view}
use Rattle.vx_reading.proofs.refusals.push_component.Given as goal

-- what is left to add makes the list whole
abbrev pub invariant-loop-placed : goal.invariant-loop-placed
invariant-loop-placed l =
    l.diagnostics ++ flat_map (refusal (is_kept l.refused) l.component) (all_placed_view (drop l.placed-index l.placed-items))
    ≡ l.initial.diagnostics ++ flat_map (refusal (is_kept l.refused) l.component) (all_placed_view l.placed-items)
