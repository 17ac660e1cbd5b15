use Rattle.std.proofs.Common.{◌<◌, ◌∷◌, [], ◌++◌, List, ap, sym, subst, ◌∙◌}
use Rattle.std.specs.List.{sum_by}
use Rattle.vx_ledger.specs.Copies.{Copy}
use Rattle.vx_transform.specs.Shelves.{copies_dropped}
use Rattle.vx_keeping.proofs.Off.{begins_next, discard_same, discard_none}
use Rattle.vx_keeping.proofs.hosting.discard_rest.Goals as goal

pub loop-taken-preserved : goal.loop-taken-preserved
loop-taken-preserved c =
    let l = c.loop-taken in
    let n = c.next_dropped.new in
    let o = c.in-Some.ensures in
    let more = c.push_reserved.ensures.items ∙ ap (λ (cs : List Copy). cs ++ c.in-Some.copy ∷ []) c.reserve.ensures.items in
    record {
      same = λ w. l.invariant.same w ∙
          discard_same (copies_dropped l.taken.items) (copies_dropped l.shelf.dropped) l.discarded.items (copies_dropped n.taken.items) (copies_dropped n.shelf.dropped) c.push_reserved.new.self.items c.in-Some.copy o.some more w;
      begins = begins_next c.args.discarded.now.items l.discarded.items c.push_reserved.new.self.items c.in-Some.copy l.invariant.begins more;
      outputs = o.outputs ∙ l.invariant.outputs;
      room = o.room ∙ l.invariant.room;
      some = subst (λ n. 0 < n) (sym o.room) l.invariant.some;
    }

pub returns-in-None-clause-same : goal.returns-in-None-clause-same
returns-in-None-clause-same c =
    let l = c.loop-taken in
    let n = c.next_dropped.new in
    let o = c.in-None.ensures in
    λ w. l.invariant.same w
    ∙ discard_none (copies_dropped l.taken.items) (copies_dropped l.shelf.dropped) l.discarded.items n.taken.items n.shelf.dropped o.none o.taken o.dropped w
    ∙ ap (λ (cs : List Copy). sum_by w (copies_dropped n.taken.items ++ (copies_dropped n.shelf.dropped ++ cs))) (sym c.reserve.ensures.items)
