use Rattle.vx_plain_case.proofs.Composing.{plain_case}
use Rattle.vx_plain_case.proofs.plain_case.Goals as goal

pub returns : goal.returns
returns c = plain_case
