use Rattle.std.proofs.Common.{◌∙◌, arith}
use Rattle.vx_instances.specs.Calls.{IsClosedBy}
use Rattle.vx_hub.specs.declared.parts.Numbered.{Numbered}
use Rattle.vx_hub.specs.Remains.{IsPortOf}
use Rattle.vx_hub.proofs.Remaining.{numbered_more, left_port}
use Rattle.vx_hub.proofs.Resting.{pushed}
use Rattle.vx_hub.proofs.remains.ports_of.Goals as goal

pub loop-i-preserved : goal.loop-i-preserved
loop-i-preserved g c =
    let v = c.loop-i.invariant in
    let observe = g.P.Port.observed in
    let port_slots = c.loop-i.port_slots.items in
    let n : Numbered _ = record { instance = c.loop-i.i; port = c.close.new.self } in
    let gone = c.in-Some.ensures.left in
    let more = c.push_reserved.ensures.items in
    let close = c.close.ensures in
    let shut : IsClosedBy (observe c.in-Some.task.port) (observe n.port) = record { shut = close.closed; bytes = close.bytes; counts = close.counts } in
    record {
      count = omega (arith, v.count, c.push_reserved.ensures.len);
      numbers = rw more (numbered_more 0 port_slots n v.numbers (omega (arith, v.count)));
      ports = rw more (pushed (IsPortOf observe c.args.states) port_slots n v.ports
          (rw v.count (left_port observe c.args.states n gone (v.rest c.loop-i.i (omega arith)) shut)));
      size = c.leave.ensures.size ∙ v.size;
      rest = λ j l. gone.others j (λ e. omega (arith, e, l)) ∙ v.rest j (omega (arith, l));
      room = omega (arith, v.room, c.push_reserved.ensures.capacity);
    }
