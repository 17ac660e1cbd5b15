use Rattle.vx_record.proofs.Waits.{pushes_first, attempts_wait}
use Rattle.vx_record.proofs.laws.waiting.Goals as goal

pub returns-clause-first : goal.returns-clause-first
returns-clause-first c = pushes_first

pub returns-clause-waits : goal.returns-clause-waits
returns-clause-waits c = attempts_wait
