use Rattle.std.proofs.Common.{◌≡◌, map, take}
use Rattle.vx_value.specs.Events.{value_at}
use Rattle.vx_pick.specs.Keys.{key_item}
use Rattle.vx_pick.proofs.dedupe_key.items_at.Given as goal

-- the items are those of the paths so far
abbrev pub invariant-loop-path : goal.invariant-loop-path
invariant-loop-path l = l.items ≡ map (λ path. key_item (value_at l.event.fields path)) (take l.path-index l.paths)
