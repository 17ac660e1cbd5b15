use Rattle.std.proofs.Common.{◌≡◌, ◌≤◌, vec_capacity, vec_len}
use Rattle.vx_ledger.specs.Copies.{numbered}
use Rattle.vx_ledger.proofs.finalizers.Finalizers.numbered.Given as goal

abbrev pub invariant-loop-i : goal.invariant-loop-i
invariant-loop-i l =
    (l.items.items ≡ numbered l.i l.first l.first l.first) × (vec_len l.items ≡ l.i) × (l.n ≤ vec_capacity l.items)
