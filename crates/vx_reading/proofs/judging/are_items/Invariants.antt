use Rattle.std.proofs.Common.{◌≡◌, drop}
use Rattle.std.specs.List.{list_all}
use Rattle.toml.specs.View.{items_view}
use Rattle.vx_reading.specs.Judging.{items_in, is_item}
use Rattle.vx_reading.proofs.judging.are_items.Given as goal

-- the values that are left say what all say
abbrev pub invariant-loop-value : goal.invariant-loop-value
invariant-loop-value l =
    list_all (is_item l.item) (items_in (items_view (drop l.value-index l.values)))
    ≡ list_all (is_item l.item) (items_in (items_view l.values))
