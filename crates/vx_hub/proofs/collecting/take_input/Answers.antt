use Rattle.std.proofs.Common.{None, refl}
use Rattle.vx_moves.proofs.Spending.{none_filled_there}
use Rattle.vx_places.specs.Looks.{IsFirstFilled}
use Rattle.vx_hub.proofs.Judging.{none_buffered}
use Rattle.vx_hub.proofs.Gathering.{may_gather, has_held_limit, gathered_one}
use Rattle.vx_hub.proofs.collecting.take_input.Goals as goal

pub take-requires-clause-room : goal.take-requires-clause-room
take-requires-clause-room g c = has_held_limit c.requires.stands c.requires.few c.requires.gathering

pub take-requires-clause-may : goal.take-requires-clause-may
take-requires-clause-may g c = may_gather c.requires.stands c.requires.few c.requires.gathering

pub returns-in-Some-clause-took : goal.returns-in-Some-clause-took
returns-in-Some-clause-took g c is =
    gathered_one c.requires.served c.requires.within c.requires.gathering c.take.ensures.steps c.take.ensures.leaves c.take.ensures.kept

pub returns-in-None-clause-none : goal.returns-in-None-clause-none
returns-in-None-clause-none g c is =
    let engine = c.args.engine.now in
    let stands = c.requires.stands in
    let first : IsFirstFilled engine.places c.args.i None = rw c.in-None.is at c.first_filled.ensures.first in
    (refl, none_buffered engine.log c.args.i stands.legal (none_filled_there engine.log engine.places c.args.i stands.legal stands.places first))
