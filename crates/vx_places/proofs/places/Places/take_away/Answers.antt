use Rattle.std.proofs.Common.{refl}
use Rattle.vx_record.specs.Places.Place.{Contents, Held}
use Rattle.vx_places.proofs.Looking.{lent_unseen}
use Rattle.vx_places.proofs.Making.{lent_still}
use Rattle.vx_places.proofs.Steps.{away_shifts}
use Rattle.vx_places.proofs.Marking.{still_at}
use Rattle.vx_places.proofs.places.Places.take_away.Goals as goal

pub returns-clause-shifts : goal.returns-clause-shifts
returns-clause-shifts c = rw c.self.view_is at
    (away_shifts c.pop_stage-parcel.ensures.takes (lent_unseen c.self.inside.rows.items c.args.instance (rw c.self.view_is c.requires.lent)))

pub returns-clause-lent : goal.returns-clause-lent
returns-clause-lent c =
    lent_still c.self.inside.rows.items c.pop_stage-parcel.new.rows.items c.args.instance (rw (c.pop_stage-parcel.ensures.size, c.self.view_is) c.requires.there)
    (c.pop_stage-parcel.ensures.takes.others (Held c.args.instance) refl) (rw c.self.view_is c.requires.lent)

pub mark-requires-clause-others : goal.mark-requires-clause-others
mark-requires-clause-others c = rw c.deref.ensures.value
    (still_at c.pop_stage-parcel.ensures.size c.self.invariant (Contents c.args.instance c.args.stage) c.pop_stage-parcel.ensures.takes.others)
