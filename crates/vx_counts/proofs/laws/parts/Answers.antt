use Rattle.vx_counts.proofs.Begun.{begun_first, begun_stays, last_is_first, last_taken_first}
use Rattle.vx_counts.proofs.laws.parts.Goals as goal

pub returns-clause-none : goal.returns-clause-none
returns-clause-none c = begun_first

pub returns-clause-stays : goal.returns-clause-stays
returns-clause-stays c = begun_stays

pub returns-clause-last : goal.returns-clause-last
returns-clause-last c = last_is_first

pub returns-clause-taken : goal.returns-clause-taken
returns-clause-taken c = last_taken_first
