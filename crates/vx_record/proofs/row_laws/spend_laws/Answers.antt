use Rattle.vx_record.proofs.Promises.{spent_abandoned, transforms_filter, unconsumed_unread, source_unread, decided_held}
use Rattle.vx_record.proofs.FirstPort.{split_read, source_routed}
use Rattle.vx_record.proofs.row_laws.spend_laws.Goals as goal

pub returns-clause-left : goal.returns-clause-left
returns-clause-left c = spent_abandoned

pub returns-clause-filtered : goal.returns-clause-filtered
returns-clause-filtered c = transforms_filter

pub returns-clause-unread : goal.returns-clause-unread
returns-clause-unread c = unconsumed_unread

pub returns-clause-of_source : goal.returns-clause-of_source
returns-clause-of_source c = source_unread

pub returns-clause-decided : goal.returns-clause-decided
returns-clause-decided c = decided_held

pub returns-clause-readers : goal.returns-clause-readers
returns-clause-readers c = split_read

pub returns-clause-source_readers : goal.returns-clause-source_readers
returns-clause-source_readers c = source_routed
