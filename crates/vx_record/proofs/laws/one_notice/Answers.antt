use Rattle.vx_record.proofs.LegalNotices.{one_notice, one_notice_at_last, no_early_notice, notice_at_once}
use Rattle.vx_record.proofs.After.{no_spent_after_notice, notice_reports}
use Rattle.vx_record.proofs.laws.one_notice.Goals as goal

pub returns-clause-one : goal.returns-clause-one
returns-clause-one c = one_notice

pub returns-clause-at_last : goal.returns-clause-at_last
returns-clause-at_last c = one_notice_at_last

pub returns-clause-no_early : goal.returns-clause-no_early
returns-clause-no_early c = no_early_notice

pub returns-clause-at_once : goal.returns-clause-at_once
returns-clause-at_once c = notice_at_once

pub returns-clause-at_last_spent : goal.returns-clause-at_last_spent
returns-clause-at_last_spent c = no_spent_after_notice

pub returns-clause-reports : goal.returns-clause-reports
returns-clause-reports c = notice_reports
