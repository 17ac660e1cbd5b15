use Rattle.std.proofs.Common.{◌≡◌}
use Rattle.vx_run.specs.Hosting.{RunEach}
use Rattle.vx_run.proofs.hosting.assign_hosts.Given as goal

-- the names are the same, and each of those before runs the one of its name
abbrev pub invariant-loop-i : goal.invariant-loop-i
invariant-loop-i g l =
    (g.H.NamedHosts.names l.hosts ≡ g.H.NamedHosts.names l.fn.hosts)
    × RunEach (g.H.NamedHosts.names l.hosts) (g.H.NamedHosts.runs l.hosts) l.fn.plan.components l.i
