-- What follows a Notice.
use Rattle.std.proofs.Common.{ℕ, ◌<◌, [], ◌∷◌, ◌++◌, sym, refl, ◌∙◌, arith}
use Rattle.std.proofs.lemmas.Bool.Decides.{nat_tests}
use Rattle.vx_status.specs.declared.batch_status.BatchStatus.{BatchStatus}
use Rattle.vx_record.specs.declared.entry.Entry.TheVariants.{Spent, Notice}
use Rattle.vx_record.specs.Records.{Record}
use Rattle.vx_record.specs.Batches.{batch_of}
use Rattle.vx_record.specs.Statuses.{AllGood}
use Rattle.vx_record.specs.Accounting.{IsAccounted}
use Rattle.vx_record.specs.Laws.{times_noticed, NoSpentAfterNotice, NoticeReports, AccountedReports, BeginningLegal}
use Rattle.vx_record.proofs.OnePlace.{legal_before}
use Rattle.vx_record.proofs.Notices.{noticed}
use Rattle.vx_record.proofs.Statuses.{delivered_so}
use Rattle.vx_record.proofs.LegalNotices.{accounted, accounted_before, accounted_so}

pub beginning_legal : BeginningLegal
beginning_legal later earlier legal = legal_before later earlier legal

pub no_spent_after_notice : NoSpentAfterNotice
no_spent_after_notice later earlier i c outcome legal =
    let (follows, before) = legal_before later (Spent i c outcome ∷ earlier) legal in
    (noticed earlier (batch_of earlier c) (accounted earlier before)).early c refl follows.row.live

-- a record with a Notice of the batch has one at least
has_notice : (later earlier : Record) (b : ℕ) (status : BatchStatus) → 0 < times_noticed (later ++ Notice b status ∷ earlier) b
has_notice [] earlier b status = grind (arith, nat_tests)
has_notice (Notice b' status' ∷ later) earlier b status = let before = has_notice later earlier b status in omega arith
has_notice (e ∷ later) earlier b status = has_notice later earlier b status

-- no later outcome is one of the batch
good_after : (later earlier : Record) (b : ℕ) (status : BatchStatus) → IsAccounted (later ++ Notice b status ∷ earlier) →
    AllGood earlier b → AllGood (later ++ Notice b status ∷ earlier) b
good_after [] earlier b status sound good = good
good_after (Spent i c outcome ∷ later) earlier b status sound good = (
  λ same.
      let none = (noticed (later ++ Notice b status ∷ earlier) b sound.1).early c same sound.0.conserves in
      let some = has_notice later earlier b status in
      absurd (omega arith),
  good_after later earlier b status sound.1 good,
)
good_after (e ∷ later) earlier b status sound good = good_after later earlier b status sound.1 good

-- the outcomes before the Notice are among all
good_before : (later earlier : Record) (b : ℕ) (status : BatchStatus) → AllGood (later ++ Notice b status ∷ earlier) b → AllGood earlier b
good_before [] earlier b status good = good
good_before (Spent i c outcome ∷ later) earlier b status good = good_before later earlier b status good.1
good_before (e ∷ later) earlier b status good = good_before later earlier b status good

pub accounted_reports : AccountedReports
accounted_reports later earlier b status sound =
    let folded = (accounted_so later earlier b status sound).1 in
    let meant = delivered_so earlier b (accounted_before later (Notice b status ∷ earlier) sound).1 in (
      λ delivered. good_after later earlier b status sound (meant.0 (sym folded ∙ delivered)),
      λ good. folded ∙ meant.1 (good_before later earlier b status good),
    )

pub notice_reports : NoticeReports
notice_reports later earlier b status legal = accounted_reports later earlier b status (accounted (later ++ Notice b status ∷ earlier) legal)
