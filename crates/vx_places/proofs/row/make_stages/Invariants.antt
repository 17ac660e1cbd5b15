use Rattle.std.proofs.Common.{◌≡◌, ◌≤◌, length, take, vec_capacity, vec_len}
use Rattle.vx_places.specs.Calls.{empty_stages}
use Rattle.vx_places.proofs.row.make_stages.Given as goal

abbrev pub invariant-loop-room : goal.invariant-loop-room
invariant-loop-room l =
    (l.stages.items ≡ empty_stages (take l.room-index l.capacities))
    × (vec_len l.stages ≡ l.room-index)
    × (length l.capacities ≤ vec_capacity l.stages)
