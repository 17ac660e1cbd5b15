use Rattle.vx_sourcecore.proofs.Framed.{framed_counted, observed_new}
use Rattle.vx_sourcecore.proofs.laws.lines.Goals as goal

pub returns-clause-counted : goal.returns-clause-counted
returns-clause-counted c = framed_counted

pub returns-clause-observed : goal.returns-clause-observed
returns-clause-observed c = observed_new
