use Rattle.std.proofs.Common.{arith, ◌∙◌, sym, ap}
use Rattle.vx_keeping.specs.Assigning.{Host, is_run}
use Rattle.vx_keeping.proofs.Assigning.{first_here, none_there}
use Rattle.vx_keeping.proofs.host_list.HostList.place_of.Goals as goal

pub returns-then-is_run : goal.returns-then-is_run
returns-then-is_run g c =
    rw (sym c.self.view_is)
    (first_here (λ (host : Host). is_run c.args.instance host.instance) c.self.inside.hosts.items c.loop-place.place c.index.result.now (omega (arith, c.loop-place-test.true, c.len-place-end.ensures)) c.loop-place.invariant
    (ap (λ (host : Host). is_run c.args.instance host.instance) (sym c.index.ensures) ∙ sym c.is_run.ensures ∙ c.if-is_run.true))

pub returns : goal.returns
returns g c =
    rw (sym c.self.view_is)
    (none_there (λ (host : Host). is_run c.args.instance host.instance) c.self.inside.hosts.items c.loop-place.place (omega (arith, c.loop-place-test.false, c.len-place-end.ensures)) c.loop-place.invariant)
