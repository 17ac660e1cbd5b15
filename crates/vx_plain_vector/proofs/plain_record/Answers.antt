use Rattle.vx_plain_vector.proofs.PlainRuns.{plain_record}
use Rattle.vx_plain_vector.proofs.plain_record.Goals as goal

pub returns : goal.returns
returns c = plain_record
