use Rattle.vx_record.proofs.Untried.{held_failed, spent_failed}
use Rattle.vx_record.proofs.Attempting.{attempt_names, attempt_due, attempt_encodes}
use Rattle.vx_record.proofs.row_laws.attempt_laws.Goals as goal

pub returns-clause-held : goal.returns-clause-held
returns-clause-held c = held_failed

pub returns-clause-failed : goal.returns-clause-failed
returns-clause-failed c = spent_failed

pub returns-clause-names : goal.returns-clause-names
returns-clause-names c = attempt_names

pub returns-clause-due : goal.returns-clause-due
returns-clause-due c = attempt_due

pub returns-clause-encodes : goal.returns-clause-encodes
returns-clause-encodes c = attempt_encodes
