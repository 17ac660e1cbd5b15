use Rattle.std.proofs.Common.{◌∙◌, arith}
use Rattle.vx_keeping.proofs.Idling.{leave_same, leave_length, leave_room}
use Rattle.vx_keeping.proofs.hosted.leave_all.Goals as goal

pub loop-copy-smaller : goal.loop-copy-smaller
loop-copy-smaller g c =
    let a = leave_length (g.T.Transform.held c.loop-copy.transform) (g.T.Transform.held c.surrender.new.self) c.in-Some.copy c.in-Some.ensures.some in
    omega (arith, a)

pub loop-copy-preserved : goal.loop-copy-preserved
loop-copy-preserved g c =
    let l = c.loop-copy in
    let held = g.T.Transform.held l.transform in
    let kept = g.T.Transform.held c.surrender.new.self in
    let a = leave_length held kept c.in-Some.copy c.in-Some.ensures.some in
    let b = leave_room l.left.items c.push_reserved.new.self.items c.in-Some.copy c.push_reserved.ensures.items in
    record {
      same = λ w. l.invariant.same w ∙ leave_same held kept c.in-Some.copy l.left.items c.push_reserved.new.self.items c.in-Some.ensures.some c.push_reserved.ensures.items w;
      ports = c.surrender.ensures.ports ∙ l.invariant.ports;
      room = let r = l.invariant.room in let d = c.push_reserved.ensures.capacity in omega (arith, a, b, r, d);
    }
