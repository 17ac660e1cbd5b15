use Rattle.vx_hub.proofs.Unready.{none_then}
use Rattle.vx_hub.proofs.ready.ready_of.Goals as goal

pub returns-then-is_of-clause-none : goal.returns-then-is_of-clause-none
returns-then-is_of-clause-none g c = none_then c.job_of.result c.job_of.ensures.none (λ found of_class. found)
