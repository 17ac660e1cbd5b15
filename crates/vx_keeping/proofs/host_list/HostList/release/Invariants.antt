use Rattle.std.proofs.Common.{◌≡◌, None, take}
use Rattle.std.specs.Prelude.{replicate}
use Rattle.vx_keeping.specs.Assigning.{names_of, runs_of}
use Rattle.vx_keeping.proofs.host_list.HostList.release.Given as goal

-- the names are the same, and no instance runs any of those before
abbrev pub invariant-loop-place : goal.invariant-loop-place
invariant-loop-place g l =
    (names_of l.self-inside.hosts.items ≡ names_of l.initial.self-inside.hosts.items)
    × (take l.place (runs_of l.self-inside.hosts.items) ≡ replicate l.place None)
