use Rattle.std.proofs.Common.{◌≡◌, ◌+◌, ◌*◌, ◌<◌, length, vec_capacity, vec_len}
use Rattle.vx_ledger.specs.Copies.{children_of}
use Rattle.vx_ledger.proofs.children.for_first.Given as goal

abbrev pub invariant-loop : goal.invariant-loop
invariant-loop l =
    (l.lists.items ≡ children_of l.counter l.first l.parent)
    × (l.number ≡ l.first + l.counter * length l.parent)
    × (vec_len l.lists ≡ l.counter)
    × (l.k < vec_capacity l.lists)
