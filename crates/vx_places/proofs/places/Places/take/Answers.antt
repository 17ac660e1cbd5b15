use Rattle.std.proofs.Common.{refl}
use Rattle.vx_places.proofs.Written.{same_capacities_then}
use Rattle.vx_places.proofs.Steps.{take_moves}
use Rattle.std.proofs.Common.{◌∙◌}
use Rattle.vx_record.specs.Places.Place.{Contents, Held}
use Rattle.vx_places.proofs.Marking.{other_place, still_but}
use Rattle.vx_places.proofs.places.Places.take.Goals as goal

pub hold-requires-clause-room : goal.hold-requires-clause-room
hold-requires-clause-room c =
    let same = c.pop_stage-parcel.ensures.takes.others (Held c.args.instance) refl in
    rw (same, (c.pop_stage-parcel.ensures.capacities c.args.instance).1, c.self.view_is) c.requires.room

pub returns-clause-moves : goal.returns-clause-moves
returns-clause-moves c = rw c.self.view_is at (take_moves c.pop_stage-parcel.ensures.takes c.hold.ensures.puts)

pub returns-clause-capacities : goal.returns-clause-capacities
returns-clause-capacities c = rw c.self.view_is at
    (same_capacities_then c.self.inside.rows.items c.pop_stage-parcel.new.rows.items c.hold.new.rows.items
    c.pop_stage-parcel.ensures.capacities c.hold.ensures.capacities)

pub mark-requires-clause-others : goal.mark-requires-clause-others
mark-requires-clause-others c = rw c.deref.ensures.value (still_but (c.hold.ensures.size ∙ c.pop_stage-parcel.ensures.size) c.self.invariant c.args.instance
    (λ p other. c.hold.ensures.puts.others p (other_place (Held c.args.instance) p other) ∙ c.pop_stage-parcel.ensures.takes.others p (other_place (Contents c.args.instance c.args.stage) p other)))
