use Rattle.vx_record.proofs.Notices.{accounted_once, accounted_late}
use Rattle.vx_record.proofs.LegalNotices.{accounted, accounted_so}
use Rattle.vx_record.proofs.After.{accounted_reports}
use Rattle.vx_record.proofs.laws.accounted.Goals as goal

pub returns-clause-legal : goal.returns-clause-legal
returns-clause-legal c = accounted

pub returns-clause-once : goal.returns-clause-once
returns-clause-once c = accounted_once

pub returns-clause-late : goal.returns-clause-late
returns-clause-late c = accounted_late

pub returns-clause-so : goal.returns-clause-so
returns-clause-so c = accounted_so

pub returns-clause-reports : goal.returns-clause-reports
returns-clause-reports c = accounted_reports
