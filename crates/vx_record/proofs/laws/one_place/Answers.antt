use Rattle.vx_record.proofs.OnePlace.{one_place, live_stands}
use Rattle.vx_record.proofs.Changes.{places_meant}
use Rattle.vx_record.proofs.laws.one_place.Goals as goal

pub returns-clause-one : goal.returns-clause-one
returns-clause-one c = one_place

pub returns-clause-meant : goal.returns-clause-meant
returns-clause-meant c = places_meant

pub returns-clause-live : goal.returns-clause-live
returns-clause-live c = live_stands
