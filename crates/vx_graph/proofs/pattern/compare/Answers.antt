use Rattle.std.proofs.Common.{◌≡◌, ◌∷◌, ◌∙◌, ap, refl}
use Rattle.vx_graph.specs.Turns.{left_text}
use Rattle.vx_graph.specs.declared.pattern.Turn.TheVariants.{Like, Star, Unlike}
use Rattle.vx_graph.proofs.Comparing.{both_over, form_over, text_over, bytes_differ, star_met, turn_behind}
use Rattle.vx_graph.proofs.pattern.compare.Goals as goal

pub bytes-preserved : goal.bytes-preserved
bytes-preserved c =
    λ turn is.
    let at : c.bytes.form.now ≡ c.in-Some.wanted ∷ c.in-Some.behind.now = c.in-Some.ensures in
    let same : left_text c.bytes.left ≡ c.in-Some.wanted ∷ left_text c.in-Some-next-2.rest =
    c.in-Some-next-2.ensures ∙ ap (λ x. x ∷ left_text c.in-Some-next-2.rest) c.if-found-wanted.false in
    c.bytes.invariant turn (turn_behind _ _ c.in-Some.wanted c.in-Some.behind.now (left_text c.in-Some-next-2.rest) turn at same c.if-wanted-eq42.false is)

pub returns-in-None : goal.returns-in-None
returns-in-None c = c.bytes.invariant Like (both_over _ _ c.in_default.ensures c.in-None.ensures)

pub returns-in-Some-next : goal.returns-in-Some-next
returns-in-Some-next c = c.bytes.invariant Unlike (form_over _ _ c.in-Some-next.field-0.0 (left_text c.in-Some-next.field-0.1) c.in_default.ensures c.in-Some-next.ensures)

pub returns-then-wanted-eq42 : goal.returns-then-wanted-eq42
returns-then-wanted-eq42 c =
    c.bytes.invariant (Star c.in-Some.behind c.bytes.left)
    (star_met _ _ c.in-Some.behind c.bytes.left (c.in-Some.ensures ∙ ap (λ x. x ∷ c.in-Some.behind.now) c.if-wanted-eq42.true) refl)

pub returns-in_default-next : goal.returns-in_default-next
returns-in_default-next c = c.bytes.invariant Unlike (text_over _ _ c.in-Some.wanted c.in-Some.behind.now c.in-Some.ensures c.in_default-next.ensures c.if-wanted-eq42.false)

pub returns-then-found-wanted : goal.returns-then-found-wanted
returns-then-found-wanted c =
    c.bytes.invariant Unlike
    (bytes_differ _ _ c.in-Some.wanted c.in-Some-next-2.found c.in-Some.behind.now (left_text c.in-Some-next-2.rest) c.in-Some.ensures c.in-Some-next-2.ensures c.if-wanted-eq42.false c.if-found-wanted.true)
