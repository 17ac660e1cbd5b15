use Rattle.vx_plain_case.proofs.Streams.{endless_unbroken}
use Rattle.vx_plain_case.proofs.endless_streams.Goals as goal

pub returns : goal.returns
returns c = endless_unbroken
