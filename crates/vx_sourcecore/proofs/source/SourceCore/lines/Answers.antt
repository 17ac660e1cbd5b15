use Rattle.std.proofs.Common.{◌≡◌, ◌∙◌, List, [], ◌∷◌, Option, length, map, ap, subst, sym, refl}
use Rattle.std.specs.Prelude.{◌==◌}
use Rattle.std.proofs.lemmas.Iterator.Adapters.{YieldsList-from_vec}
use Rattle.std.proofs.lemmas.Iterator.Consumers.{YieldsList-end}
use Rattle.vx_value.specs.Texts.{ByteString}
use Rattle.vx_frame.specs.declared.line.Line.{Line}
use Rattle.vx_json.specs.LineEvents.{line_fields}
use Rattle.vx_sourcecore.specs.declared.source.Cut.{Cut}
use Rattle.vx_sourcecore.specs.Sources.{IsOf, frame_of}
use Rattle.vx_sourcecore.proofs.Lining.{none_there, line_step}
use Rattle.vx_sourcecore.proofs.source.SourceCore.lines.Goals as goal

map_same : {X : Type 0} (xs : List X) → map (λ x. x) xs ≡ xs
map_same [] = refl
map_same (x ∷ xs) = ap (λ ys. x ∷ ys) (map_same xs)

pub loop-line-init : goal.loop-line-init
loop-line-init c = record { each = c.new.ensures; last = refl; new = c.none.ensures c.args.self.now.decoding }

pub loop-line-preserved : goal.loop-line-preserved
loop-line-preserved c =
    let d = c.args.self.now.decoding in
    let source_type = c.args.self.now.source_type in
    let file = c.args.self.now.file in
    let line = c.in-Some.line in
    let now : Cut = record { events = c.push.new.events; end = line.end; new = c.line.new.self } in
    line_step d source_type file c.loop-line.yielded line c.in_ok-event.event c.is_empty-bare.result c.is_some.result c.loop-line.cut now
    (c.in_ok-event.ensures ∙ ap (λ (o : Option ByteString). line_fields d source_type o line.bytes) c.as_ref-file.ensures.value)
    (c.is_empty-bare.ensures ∙ ap (λ (w : ByteString). length w == 0) c.as_slice.ensures ∙ none_there line.bytes)
    c.is_some.ensures c.line.ensures c.in_ok-push.ensures refl c.loop-line.invariant

pub returns : goal.returns
returns c over is =
    let d = c.args.self.now.decoding in
    let source_type = c.args.self.now.source_type in
    let file = c.args.self.now.file in
    let items = c.into_vec-line-items.result in
    let gives = c.into_iter-line-iterator.ensures.into_iter_gives in
    let all = YieldsList-end (YieldsList-from_vec {s = c.into_iter-line-iterator.result} items.items gives.0 (gives.1 ∙ items.ok.0)) c.loop-line.yielded c.loop-line.line-iterator c.loop-line.yielded_by c.next.result c.next.new.self c.in-None.is c.next.ensures.steps in
    let same : c.loop-line.yielded ≡ c.args.lines = sym (map_same c.loop-line.yielded) ∙ all.0 ∙ c.into_vec-line-items.ensures in
    let brought = subst (λ (lines : List Line). IsOf d source_type file lines 0 c.loop-line.cut) same c.loop-line.invariant in
    record { each = brought.each; last = brought.last; new = c.too_long.ensures d (map frame_of c.args.lines) over is brought.new }
