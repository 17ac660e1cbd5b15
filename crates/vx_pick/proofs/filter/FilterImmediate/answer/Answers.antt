use Rattle.std.proofs.Common.{◌≡◌, subst}
use Rattle.std.proofs.lemmas.Result.{on_ok_weaker}
use Rattle.vx_value.specs.declared.event.Event.{Event}
use Rattle.vx_condition.specs.Picking.{filter_passes}
use Rattle.vx_record.specs.Transforms.{passing, port_bits}
use Rattle.vx_pick.proofs.filter.FilterImmediate.answer.Goals as goal

pub returns-in-Ok-clause-answered : goal.returns-in-Ok-clause-answered
returns-in-Ok-clause-answered c = on_ok_weaker c.answer.result
    (λ said. record {
      answered = λ test earlier mean.
          said (passing (filter_passes test) earlier c.args.parcel.event)
          (subst (λ (event : Event). c.in-Ok.ports ≡ port_bits (passing (filter_passes test) earlier event)) c.get.ensures (c.in-Ok.ensures.ports test earlier mean));
      same = c.in-Ok.ensures.same;
    }) c.answer.ensures.answered

pub returns-in-Ok-clause-moves : goal.returns-in-Ok-clause-moves
returns-in-Ok-clause-moves c = on_ok_weaker c.answer.result (λ said. said 1 c.in-Ok.ensures.below) c.answer.ensures.moves
