use Rattle.std.proofs.Common.{◌≡◌, ◌≤◌, vec_capacity, vec_len}
use Rattle.vx_ledger.specs.Copies.{numbered, each_alone}
use Rattle.vx_ledger.proofs.alone.each_numbered.Given as goal

abbrev pub invariant-loop-i : goal.invariant-loop-i
invariant-loop-i l =
    (l.lists.items ≡ each_alone (numbered l.i l.first l.first l.first)) × (vec_len l.lists ≡ l.i) × (l.n ≤ vec_capacity l.lists)
