use Rattle.std.proofs.Common.{◌≤◌, sym, subst, ◌∙◌, arith}
use Rattle.vx_keeping.proofs.Idling.{moved_named, each_same, each_few}
use Rattle.vx_keeping.proofs.hosted.give_each.Goals as goal

pub loop-parcel-preserved : goal.loop-parcel-preserved
loop-parcel-preserved g c =
    let l = c.loop-parcel in
    let held = g.T.Transform.held l.transform in
    let kept = g.T.Transform.held c.apply.new.self in
    let n = g.T.Transform.port_count l.transform in
    let p = c.in-Some.parcel in
    let moves = c.in-Ok.ensures.moves in
    record {
      same = λ w. l.invariant.same w ∙ each_same n l.taken.items c.pop.new.self.items p held kept l.shelf c.apply.new.shelf c.in-Some.ensures.some moves w;
      few = let a = each_few n l.taken.items c.pop.new.self.items p held kept l.shelf c.apply.new.shelf c.in-Some.ensures.some moves in let b = l.invariant.few in omega (arith, a, b);
      named = λ named. moved_named n _ kept l.shelf c.apply.new.shelf moves (subst (λ m. m ≤ 65) (sym l.invariant.ports) c.requires) (l.invariant.named named);
      ports = c.apply.ensures.ports ∙ l.invariant.ports;
      room = c.pop.ensures.room ∙ l.invariant.room;
    }
