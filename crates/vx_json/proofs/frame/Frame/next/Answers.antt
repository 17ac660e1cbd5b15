use Rattle.std.proofs.Common.{◌≡◌, ◌-◌, ◌<◌, Some, length, take, drop, arith, ◌∙◌, ap}
use Rattle.std.proofs.lemmas.List.{take_all, length-drop}
use Rattle.vx_value.specs.Events.{with_field}
use Rattle.vx_value.specs.Values.{datum_of}
use Rattle.vx_json.specs.ModeViews.{frame_view}
use Rattle.vx_json.specs.Walks.{IsNamed}
use Rattle.vx_json.proofs.Walks.{name-over}
use Rattle.vx_json.proofs.frame.Frame.next.Goals as goal

pub returns-in_ok-put-in-Fields-clause-leads : goal.returns-in_ok-put-in-Fields-clause-leads
returns-in_ok-put-in-Fields-clause-leads c st =
    let bytes = c.args.bytes.now in
    let fs = c.in-Fields.fields in
    let name = c.in-Fields.name in
    let value = c.in-Some-take.value in
    let some : 0 < length bytes = grind (arith, c.is_empty.ensures) in
    let q = rw c.in-Some-2.is at c.in_ok-next-in-Fields.ensures in
    let rest : take (length bytes - 1) (drop 1 bytes) ≡ drop 1 bytes = take_all _ _ (omega (arith, length-drop 1 bytes)) in
    let named : IsNamed (take c.in-Some-2.n (drop 1 bytes)) c.in-Some-2.next = rw rest at q.named in
    let was : c.args.held.now ≡ Some value = cc (c.in-Some-take.ensures.value) in
    let put : c.put.new.self ≡ with_field fs name (datum_of value) = c.in_ok-put-in-Fields.ensures ∙ ap (λ x. with_field fs x (datum_of value)) c.replace-name.ensures.value in
    name-over c.args.held.now c.take-in-Fields.new.self value (frame_view c.args.self.now) fs c.put.new.self name c.in-Some-2.next c.replace-name.new.dest bytes c.in-Some-2.n st was c.take-in-Fields.ensures.after (ap frame_view c.in-Fields.is) put c.replace-name.ensures.after some c.if-bytes-ne44.false named
