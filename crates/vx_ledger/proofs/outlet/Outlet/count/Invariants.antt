use Rattle.std.proofs.Common.{◌≡◌, ◌-◌, ◌^◌, length, min, take}
use Rattle.vx_ledger.specs.Routing.{targets_from}
use Rattle.vx_ledger.proofs.outlet.Outlet.count.Given as goal

abbrev pub invariant-loop-port : goal.invariant-loop-port
invariant-loop-port l =
    l.count ≡ min (length (targets_from l.ports 0 (take l.port l.self-inside.ports.items))) (2 ^ 64 - 1)
