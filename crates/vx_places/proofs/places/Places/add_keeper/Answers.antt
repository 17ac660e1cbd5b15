use Rattle.vx_places.proofs.Making.{keeper_added, keeper_row, keeper_capacities}
use Rattle.std.proofs.Common.{◌∙◌, [], ◌∷◌, refl}
use Rattle.std.proofs.lemmas.List.{length-append}
use Rattle.vx_places.specs.Views.{AddsKeeper}
use Rattle.vx_places.proofs.Marking.{keeper_marked}
use Rattle.vx_places.proofs.places.Places.add_keeper.Goals as goal

pub returns-clause-adds : goal.returns-clause-adds
returns-clause-adds c = rw (c.push_reserved.ensures.items, c.reserve.ensures.items, c.self.view_is) (keeper_added c.args.capacities.now c.args.self.now c.in_ok-row.row c.in_ok-row.ensures)

pub returns-clause-fresh : goal.returns-clause-fresh
returns-clause-fresh c = rw (c.push_reserved.ensures.items, c.reserve.ensures.items, c.self.view_is) (keeper_row c.args.capacities.now c.args.self.now c.in_ok-row.row c.in_ok-row.ensures)

pub returns-clause-capacities : goal.returns-clause-capacities
returns-clause-capacities c = rw (c.push_reserved.ensures.items, c.reserve.ensures.items, c.self.view_is) (keeper_capacities c.args.capacities.now c.args.self.now c.in_ok-row.row c.in_ok-row.ensures)

pub invariant_of-self-2 : goal.invariant_of-self-2
invariant_of-self-2 c =
    let rows = c.self.inside.rows.items in
    let here : AddsKeeper rows c.push_reserved.new.self.items = rw (c.push_reserved.ensures.items, c.reserve.ensures.items) (keeper_added c.args.capacities.now rows c.in_ok-row.row c.in_ok-row.ensures) in
    keeper_marked (rw (c.push_reserved.ensures.items, c.reserve.ensures.items) (length-append rows (c.in_ok-row.row ∷ []))) here.others
    (c.push_reserved-2.ensures.items ∙ rw c.reserve-2.ensures.items refl) (c.push_reserved-3.ensures.items ∙ rw c.reserve-3.ensures.items refl) c.self.invariant
