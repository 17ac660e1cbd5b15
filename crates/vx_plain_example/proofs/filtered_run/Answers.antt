use Rattle.vx_plain_example.proofs.Filtered.{plain_filtered}
use Rattle.vx_plain_example.proofs.filtered_run.Goals as goal

pub returns-clause-plain : goal.returns-clause-plain
returns-clause-plain c = plain_filtered
