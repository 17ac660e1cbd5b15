use Rattle.std.proofs.Common.{◌≡◌, subst}
use Rattle.std.proofs.lemmas.Result.{on_ok_weaker}
use Rattle.vx_value.specs.declared.event.Event.{Event}
use Rattle.vx_condition.specs.Picking.{route_ports}
use Rattle.vx_record.specs.Transforms.{port_bits}
use Rattle.vx_pick.proofs.route.RouteImmediate.answer.Goals as goal

pub returns-in-Ok-clause-answered : goal.returns-in-Ok-clause-answered
returns-in-Ok-clause-answered c = on_ok_weaker c.answer.result
    (λ said. record {
      answered = λ tests mean.
          said (route_ports tests c.args.self.now.reroute c.args.parcel.event)
          (subst (λ (event : Event). c.in-Ok.ports ≡ port_bits (route_ports tests c.args.self.now.reroute event)) c.get.ensures (c.in-Ok.ensures.ports tests mean));
      same = c.in-Ok.ensures.same;
    }) c.answer.ensures.answered
