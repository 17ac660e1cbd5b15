use Rattle.vx_record.proofs.OnePlace.{conserved, conserved_place, conserved_live}
use Rattle.vx_record.proofs.laws.conserved.Goals as goal

pub returns-clause-legal : goal.returns-clause-legal
returns-clause-legal c = conserved

pub returns-clause-one : goal.returns-clause-one
returns-clause-one c = conserved_place

pub returns-clause-live : goal.returns-clause-live
returns-clause-live c = conserved_live
