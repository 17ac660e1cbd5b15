use Rattle.vx_keeping.specs.Assigning.{Host, is_free}
use Rattle.vx_keeping.proofs.Assigning.{NoneBefore}
use Rattle.vx_keeping.proofs.host_list.HostList.place_for.Given as goal

-- none of those before is free
abbrev pub invariant-loop-place : goal.invariant-loop-place
invariant-loop-place g l = NoneBefore (λ (host : Host). is_free l.name host.name host.instance) l.self-inside.hosts.items l.place
