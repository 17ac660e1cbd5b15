use Rattle.std.proofs.Common.{◌≡◌, ◌++◌, drop}
use Rattle.std.specs.List.{flat_map}
use Rattle.std.specs.Option.{option_map}
use Rattle.toml.specs.View.{view}
use Rattle.vx_reading.specs.Diagnostics.{part_diagnostics}
use Rattle.vx_reading.specs.Views.{parts_view}
use Rattle.vx_reading.proofs.diagnostics.push_parts.Given as goal

-- what is left to add makes the list whole
abbrev pub invariant-loop-part : goal.invariant-loop-part
invariant-loop-part l =
    l.diagnostics ++ flat_map (part_diagnostics (view l.root) (option_map (λ name. name.now) l.first)) (parts_view (drop l.part-index l.all))
    ≡ l.initial.diagnostics ++ flat_map (part_diagnostics (view l.root) (option_map (λ name. name.now) l.first)) (parts_view l.all)
