use Rattle.vx_places.proofs.Written.{same_capacities_then}
use Rattle.vx_places.proofs.Steps.{push_moves}
use Rattle.vx_record.specs.Places.Place.{Waiting, Contents}
use Rattle.vx_places.proofs.Marking.{still_at}
use Rattle.vx_places.proofs.places.Places.push.Goals as goal

pub returns-clause-moves : goal.returns-clause-moves
returns-clause-moves c = rw c.self.view_is at (push_moves c.take_child-parcel.ensures.takes c.push_stage.ensures.puts)

pub returns-clause-capacities : goal.returns-clause-capacities
returns-clause-capacities c = rw c.self.view_is at
    (same_capacities_then c.self.inside.rows.items c.take_child-parcel.new.rows.items c.push_stage.new.rows.items
    c.take_child-parcel.ensures.capacities c.push_stage.ensures.capacities)

pub mark-requires-clause-others : goal.mark-requires-clause-others
mark-requires-clause-others c = rw c.deref.ensures.value (still_at c.take_child-parcel.ensures.size c.self.invariant (Waiting c.args.instance c.args.target) c.take_child-parcel.ensures.takes.others)

pub mark-requires-2-clause-others : goal.mark-requires-2-clause-others
mark-requires-2-clause-others c = rw c.deref-2.ensures.value (still_at c.push_stage.ensures.size (rw c.deref.ensures.value at c.mark.ensures) (Contents c.args.target c.args.stage) c.push_stage.ensures.puts.others)
