use Rattle.vx_record.proofs.Grows.{taken_grows, given_grows, confirmed_grows, ended_grows}
use Rattle.vx_record.proofs.laws.growth.Goals as goal

pub returns-clause-taken : goal.returns-clause-taken
returns-clause-taken c = taken_grows

pub returns-clause-given : goal.returns-clause-given
returns-clause-given c = given_grows

pub returns-clause-confirmed : goal.returns-clause-confirmed
returns-clause-confirmed c = confirmed_grows

pub returns-clause-ended : goal.returns-clause-ended
returns-clause-ended c = ended_grows
