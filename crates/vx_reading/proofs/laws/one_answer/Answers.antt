use Rattle.vx_reading.proofs.Sure.{surely_read}
use Rattle.vx_reading.proofs.OneAnswer.{one_plan, never_both, one_first}
use Rattle.vx_reading.proofs.laws.one_answer.Goals as goal

pub returns : goal.returns
returns c = record { plan = one_plan; apart = never_both; sure = surely_read; first = one_first }
