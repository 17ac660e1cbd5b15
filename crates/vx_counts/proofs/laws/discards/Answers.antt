use Rattle.vx_counts.proofs.Dropping.{dropped_begun, dropped_complete}
use Rattle.vx_counts.proofs.laws.discards.Goals as goal

pub returns-clause-whole : goal.returns-clause-whole
returns-clause-whole c = dropped_complete

pub returns-clause-begun : goal.returns-clause-begun
returns-clause-begun c = dropped_begun
