use Rattle.std.proofs.Common.{◌≡◌, ◌≤◌, [], replicate, vec_capacity, vec_len}
use Rattle.vx_ledger.proofs.outlet.Outlet.new.Given as goal

abbrev pub invariant-loop : goal.invariant-loop
invariant-loop l =
    (l.lists.items ≡ replicate l.counter []) × (vec_len l.lists ≡ l.counter) × (l.ports ≤ vec_capacity l.lists)
