use Rattle.vx_plain_vector.proofs.PlainRuns.{plain_bytes}
use Rattle.vx_ends.specs.Silent.{observed_if}
use Rattle.vx_plain_vector.proofs.plain_bytes.Goals as goal

pub returns : goal.returns
returns g c = plain_bytes (observed_if g.P.Port.observed) c.one_command.ensures.one c.one_answer.ensures.plan
