use Rattle.vx_keeping.specs.Assigning.{Host, is_run}
use Rattle.vx_keeping.proofs.Assigning.{NoneBefore}
use Rattle.vx_keeping.proofs.host_list.HostList.place_of.Given as goal

-- the instance runs none of those before
abbrev pub invariant-loop-place : goal.invariant-loop-place
invariant-loop-place g l = NoneBefore (λ (host : Host). is_run l.instance host.instance) l.self-inside.hosts.items l.place
