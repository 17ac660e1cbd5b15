use Rattle.std.proofs.Common.{sym, ◌∙◌, length}
use Rattle.vx_pick.proofs.Bits.{route_ports-rerouted}
use Rattle.vx_pick.proofs.Saying.{length-tests}
use Rattle.vx_pick.proofs.route.ports.Goals as goal

pub returns-then-reroute-clause-ports : goal.returns-then-reroute-clause-ports
returns-then-reroute-clause-ports c = λ tests mean.
    let texts = c.args.conditions.now.items in
    rw c.if-reroute.true (c.in_ok-accepting.ensures.behind ∙ sym (route_ports-rerouted tests c.args.event.now (length texts)
    (length-tests texts tests mean) (sym (c.in_ok-accepting.ensures.accepting tests mean) ∙ c.if-accepting-eq0.true)))
