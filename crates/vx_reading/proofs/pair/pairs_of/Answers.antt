use Rattle.vx_reading.proofs.Apart.{apart_sorted}
use Rattle.vx_reading.proofs.pair.pairs_of.Goals as goal

pub returns-clause-apart : goal.returns-clause-apart
returns-clause-apart c = apart_sorted c.args.table.now.entries c.iter-name-items.ensures.ordered
