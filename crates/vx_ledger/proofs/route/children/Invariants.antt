use Rattle.std.proofs.Common.{◌≡◌, ◌+◌, ◌*◌, ◌<◌, length, take, vec_capacity, vec_len}
use Rattle.vx_ledger.specs.Routing.{children_for}
use Rattle.vx_ledger.proofs.route.children.Given as goal

abbrev pub invariant-loop-target : goal.invariant-loop-target
invariant-loop-target l =
    (l.children.items ≡ children_for (take l.target-index l.targets) l.first l.parcel)
    × (l.number ≡ l.first + l.target-index * length l.parcel.finalizers)
    × (vec_len l.children ≡ l.target-index)
    × (length l.targets < vec_capacity l.children)
