use Rattle.vx_counts.proofs.Classes.{source_is, transform_is, sink_is}
use Rattle.vx_counts.proofs.laws.roles.Goals as goal

pub returns-clause-source : goal.returns-clause-source
returns-clause-source c = source_is

pub returns-clause-transform : goal.returns-clause-transform
returns-clause-transform c = transform_is

pub returns-clause-sink : goal.returns-clause-sink
returns-clause-sink c = sink_is
