use Rattle.std.proofs.Common.{◌≡◌, ◌++◌, drop}
use Rattle.vx_reading.specs.Conditions.{refusals}
use Rattle.vx_reading.specs.Refused.{is_kept}
use Rattle.vx_reading.proofs.refusals.push_components.Given as goal

-- what is left to add makes the list whole
abbrev pub invariant-loop-component : goal.invariant-loop-component
invariant-loop-component l =
    l.diagnostics ++ refusals (is_kept l.refused) (drop l.component-index l.component-items)
    ≡ l.initial.diagnostics ++ refusals (is_kept l.refused) l.component-items
