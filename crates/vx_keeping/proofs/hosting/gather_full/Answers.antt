use Rattle.std.proofs.Common.{◌≡◌, ◌∷◌, [], ◌++◌, List, ap, ◌∙◌}
use Rattle.std.specs.Prelude.{◌≢◌}
use Rattle.vx_transform.specs.declared.output.Output.{Output}
use Rattle.vx_keeping.proofs.Off.{put_same, put_begins, named_rest, sound_next}
use Rattle.vx_keeping.proofs.hosting.gather_full.Goals as goal

pub loop-shelf-preserved : goal.loop-shelf-preserved
loop-shelf-preserved c =
    let p = c.put_if_full.ensures in
    let l = c.loop-shelf in
    let next = c.put_if_full.new.ready.items in
    let rest = c.take_output.new.self.outputs in
    let some = c.in-Some.ensures.some in
    let o = c.in-Some.output in
    let full : o.parcel.finalizers ≢ [] → next ≡ l.ready.items ++ o ∷ [] = λ has. p.full has ∙ ap (λ (os : List Output). os ++ o ∷ []) c.reserve.ensures.items in
    let empty : o.parcel.finalizers ≡ [] → next ≡ l.ready.items = λ none. p.empty none ∙ c.reserve.ensures.items in
    record {
      same = λ w. l.invariant.same w ∙ put_same l.ready.items next l.shelf.outputs rest o some full empty w;
      sound = λ named sound.
          let before = l.invariant.sound named sound in
          let parts = named_rest l.shelf.outputs rest o some before.0 in
          (parts.1, sound_next l.ready.items next o parts.0 full empty before.1);
      begins = put_begins c.args.ready.now.items l.ready.items next o l.invariant.begins full empty;
      dropped = c.in-Some.ensures.dropped ∙ l.invariant.dropped;
    }
