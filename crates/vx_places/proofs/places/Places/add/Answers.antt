use Rattle.vx_places.proofs.Making.{added_same, added_row, capacities_added}
use Rattle.std.proofs.Common.{◌∙◌, [], ◌∷◌, refl}
use Rattle.std.proofs.lemmas.List.{length-append}
use Rattle.vx_places.specs.Views.{Same}
use Rattle.vx_places.proofs.Marking.{marked_more}
use Rattle.vx_places.proofs.places.Places.add.Goals as goal

pub returns-clause-same : goal.returns-clause-same
returns-clause-same c = rw (c.push_reserved.ensures.items, c.reserve.ensures.items, c.self.view_is) (added_same c.args.capacities.now c.args.held c.args.self.now c.in_ok-row.row c.in_ok-row.ensures)

pub returns-clause-fresh : goal.returns-clause-fresh
returns-clause-fresh c = rw (c.push_reserved.ensures.items, c.reserve.ensures.items, c.self.view_is) (added_row c.args.capacities.now c.args.held c.args.self.now c.in_ok-row.row c.in_ok-row.ensures)

pub returns-clause-capacities : goal.returns-clause-capacities
returns-clause-capacities c = rw (c.push_reserved.ensures.items, c.reserve.ensures.items, c.self.view_is) (capacities_added c.args.capacities.now c.args.held c.args.self.now c.in_ok-row.row c.in_ok-row.ensures)

pub invariant_of-self-2 : goal.invariant_of-self-2
invariant_of-self-2 c =
    let rows = c.self.inside.rows.items in
    let marks = c.self.inside.marks in
    let here : Same rows c.push_reserved.new.self.items = rw (c.push_reserved.ensures.items, c.reserve.ensures.items) (added_same c.args.capacities.now c.args.held rows c.in_ok-row.row c.in_ok-row.ensures) in
    marked_more marks.unsent.items marks.filled.items (rw (c.push_reserved.ensures.items, c.reserve.ensures.items) (length-append rows (c.in_ok-row.row ∷ []))) here.here refl refl
    (c.push_reserved-2.ensures.items ∙ rw c.reserve-2.ensures.items refl) (c.push_reserved-3.ensures.items ∙ rw c.reserve-3.ensures.items refl) c.self.invariant
