-- The notices of every record that accounts; a legal one does.
use Rattle.std.proofs.Common.{◌≡◌, ℕ, ◌+◌, ◌<◌, [], ◌∷◌, ◌++◌, sym, ◌∙◌, arith}
use Rattle.std.specs.Prelude.{if◌then◌else◌, ◌==◌, ◌||◌, Bool, true, false}
use Rattle.vx_record.specs.declared.entry.Entry.{Entry}
use Rattle.vx_record.specs.declared.entry.Entry.TheVariants.{Born, Split, Notice}
use Rattle.vx_record.specs.Records.{Record}
use Rattle.vx_record.specs.Accounting.{Accounts, IsAccounted}
use Rattle.vx_record.specs.Legal.{Allows}
use Rattle.vx_record.specs.Confirms.{is_noticed}
use Rattle.vx_record.specs.Laws.{times_noticed, OneNoticeAtLast, OneNotice, NoEarlyNotice, NoticeAtOnce, RunningStatus, DeliveredWhereGood, LegalAccounted, AccountedSo}
use Rattle.vx_record.proofs.OnePlace.{conserves, legal_before}
use Rattle.vx_record.proofs.Notices.{noticed, accounted_once, accounted_late}
use Rattle.vx_record.proofs.Statuses.{running_so, delivered_so}

-- what is allowed accounts
accounts : (h : Record) (e : Entry) → IsAccounted h → Allows h e → Accounts h e
accounts h (Born i b place copies events waits stream end) sound a = record { some = a.some; number = a.number }
accounts h (Split i ports copies event children) sound a = a.split.some
accounts h (Notice b status) sound a = record { due = a.due; folded = a.folded ∙ sym (running_so h b sound) }
accounts h e sound a = tt

pub accounted : LegalAccounted
accounted [] legal = tt
accounted (e ∷ h) legal =
    let before = accounted h legal.1 in
    (record { conserves = conserves h e legal.0.row; accounts = accounts h e before legal.0.row; turn = legal.0.turn }, before)

pub accounted_before : (later earlier : Record) → IsAccounted (later ++ earlier) → IsAccounted earlier
accounted_before [] earlier sound = sound
accounted_before (e ∷ later) earlier sound = accounted_before later earlier sound.1

pub accounted_so : AccountedSo
accounted_so later earlier b status sound =
    let here = accounted_before later (Notice b status ∷ earlier) sound in
    (here.0.accounts.due, here.0.accounts.folded ∙ running_so earlier b here.1)

pub running_status : RunningStatus
running_status h b legal = running_so h b (accounted h legal)

pub delivered_where_good : DeliveredWhereGood
delivered_where_good h b legal = delivered_so h b (accounted h legal)

pub one_notice : OneNotice
one_notice h legal b has none w = accounted_once h (accounted h legal) b has none w

pub no_early_notice : NoEarlyNotice
no_early_notice h legal b c bc v = accounted_late h (accounted h legal) b c bc v

pub notice_at_once : NoticeAtOnce
notice_at_once later earlier b status legal = let row = (legal_before later (Notice b status ∷ earlier) legal).0.row in (row.due, row.folded)

pub noticed_times : (h : Record) (b : ℕ) → is_noticed h b ≡ true → 0 < times_noticed h b
noticed_times [] b e = cc
noticed_times (Notice b' status ∷ h) b e = go (b' == b) (λ d. noticed_times h b d) e
  where
    go : (same : Bool) → (is_noticed h b ≡ true → 0 < times_noticed h b) → (same || is_noticed h b) ≡ true →
        0 < (if same then 1 else 0) + times_noticed h b
    go true ih e = omega arith
    go false ih e = let l = ih e in omega arith
noticed_times (e ∷ h) b d = noticed_times h b d

pub one_notice_at_last : OneNoticeAtLast
one_notice_at_last h legal closed b has =
    let known = noticed h b (accounted h legal) in
    known.done has (λ c same live. closed.spent c live) (λ w. let none = known.due w in let some = noticed_times h b (closed.noticed b has) in omega arith)
