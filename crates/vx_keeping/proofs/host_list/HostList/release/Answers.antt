use Rattle.std.proofs.Common.{◌≡◌, ◌∙◌, ap, arith, length}
use Rattle.vx_keeping.specs.Assigning.{Host}
use Rattle.vx_keeping.proofs.Assigning.{released_more, renamed, same_count}
use Rattle.vx_keeping.proofs.host_list.HostList.release.Goals as goal

pub loop-place-preserved : goal.loop-place-preserved
loop-place-preserved g c =
    let hosts = c.loop-place.self-inside.hosts.items in
    let all : length hosts ≡ length c.self.inside.hosts.items = same_count hosts c.self.inside.hosts.items c.loop-place.invariant.0 in (
      renamed hosts c.loop-place.place c.run_by.new.self c.index_mut.result.now (c.run_by.ensures.name ∙ ap (λ (host : Host). host.name) c.index_mut.ensures.value) ∙ c.loop-place.invariant.0,
      released_more hosts c.loop-place.place c.run_by.new.self (omega (arith, all, c.loop-place-test.true, c.len-place-end.ensures)) c.loop-place.invariant.1 c.run_by.ensures.instance,
    )
