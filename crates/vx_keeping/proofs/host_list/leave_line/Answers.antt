use Rattle.std.proofs.Common.{◌∙◌, ◌∷◌, ◌++◌, List, [], ap}
use Rattle.vx_ledger.specs.Copies.{Copy}
use Rattle.vx_transform.specs.Shelves.{copies_dropped}
use Rattle.vx_keeping.proofs.Idling.{passed_same}
use Rattle.vx_keeping.proofs.host_list.leave_line.Goals as goal

pub loop-taken-preserved : goal.loop-taken-preserved
loop-taken-preserved c =
    let l = c.loop-taken in
    let n = c.take_copy.new.line in
    let more = c.push_reserved.ensures.items ∙ ap (λ (cs : List Copy). cs ++ c.in-Some.copy ∷ []) c.reserve.ensures.items in
    record {
      same = λ w. l.invariant.same w ∙ passed_same (copies_dropped l.taken.items) (copies_dropped n.items) c.in-Some.copy l.left.items c.push_reserved.new.self.items c.in-Some.ensures.some more w;
      room = c.take_copy.ensures.room ∙ l.invariant.room;
    }
