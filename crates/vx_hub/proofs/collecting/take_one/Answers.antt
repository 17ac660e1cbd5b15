use Rattle.std.proofs.Common.{◌∙◌, sym}
use Rattle.vx_hub.proofs.Leases.{may_take, taken_one}
use Rattle.vx_hub.proofs.collecting.take_one.Goals as goal

pub take-requires-clause-may : goal.take-requires-clause-may
take-requires-clause-may g c = may_take c.requires.few c.requires.collecting (sym c.is_closed_out.ensures ∙ c.if-is_closed_out.false)

pub returns-in-Some-clause-took : goal.returns-in-Some-clause-took
returns-in-Some-clause-took g c is =
    taken_one c.requires.served c.requires.within c.requires.collecting c.take.ensures.steps c.take.ensures.leaves c.take.ensures.kept
