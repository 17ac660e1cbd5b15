use Rattle.std.proofs.Common.{◌≡◌, ◌≤◌, length, take, vec_capacity, vec_len}
use Rattle.vx_ledger.specs.Copies.{renumbered}
use Rattle.vx_ledger.proofs.finalizers.Finalizers.renumbered.Given as goal

abbrev pub invariant-loop-i : goal.invariant-loop-i
invariant-loop-i l =
    (l.items.items ≡ renumbered l.first (take l.i l.self)) × (vec_len l.items ≡ l.i) × (length l.self ≤ vec_capacity l.items)
