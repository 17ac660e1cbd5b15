use Rattle.vx_record.proofs.Judges.{held_is_given, held_is_answered, filtered_there, may_answer_now}
use Rattle.vx_record.proofs.laws.judging.Goals as goal

pub returns-clause-given : goal.returns-clause-given
returns-clause-given c = held_is_given

pub returns-clause-answered : goal.returns-clause-answered
returns-clause-answered c = held_is_answered

pub returns-clause-filtered : goal.returns-clause-filtered
returns-clause-filtered c = filtered_there

pub returns-clause-may : goal.returns-clause-may
returns-clause-may c = may_answer_now
