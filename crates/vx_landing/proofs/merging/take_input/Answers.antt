use Rattle.vx_landing.proofs.Merged.{may_take, taken_one}
use Rattle.vx_landing.proofs.merging.take_input.Goals as goal

pub take_kept-requires-clause-may : goal.take_kept-requires-clause-may
take_kept-requires-clause-may g c = may_take c.requires.stands c.requires.taking c.requires.few

pub returns-in-Some-clause-took : goal.returns-in-Some-clause-took
returns-in-Some-clause-took g c is = taken_one c.requires.taking c.take_kept.ensures.steps c.take_kept.ensures.leaves
