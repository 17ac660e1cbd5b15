-- Records in which each batch gets its notice where its last copy is spent, with the status of its spends.
use Rattle.std.specs.Prelude.{ℕ, ◌<◌, ◌≡◌, true, false, List, [], ◌∷◌, length}
use Rattle.vx_status.specs.declared.batch_status.BatchStatus.{BatchStatus}
use Rattle.vx_record.specs.declared.entry.Entry.{Entry}
use Rattle.vx_record.specs.declared.entry.Entry.TheVariants.{Born, Split, Notice}
use Rattle.vx_record.specs.Records.{Record}
use Rattle.vx_record.specs.Copies.{next_copy}
use Rattle.vx_record.specs.Batches.{is_notice_due, awaits_notice}
use Rattle.vx_record.specs.Statuses.{running}
use Rattle.vx_record.specs.Moving.{Conserves}

-- a batch has a copy, and the number of the first
pub record IsNumbered (h : Record) (batch : ℕ) (copies : List ℕ) : Type 0 where
  pub some : 0 < length copies
  pub number : batch ≡ next_copy h

-- a notice comes where it is due, with the status into which the spends of its batch were folded as they came
pub record IsNoticedSo (h : Record) (batch : ℕ) (status : BatchStatus) : Type 0 where
  pub due : awaits_notice h batch ≡ true
  pub folded : status ≡ running h batch

-- what the notices need of an entry beside where copies stand
abbrev pub Accounts : Record → Entry → Type 0
Accounts h (Born i b place copies events waits stream end) = IsNumbered h b copies
Accounts h (Split i ports copies event children) = 0 < length children
Accounts h (Notice b status) = IsNoticedSo h b status
Accounts h other = Unit {0}

-- where a notice is due, nothing else may stand
abbrev pub IsInTurn : Record → Entry → Type 0
IsInTurn h (Notice b status) = Unit {0}
IsInTurn h other = is_notice_due h ≡ false

-- an entry conserves copies, and each batch keeps getting its notice
pub record Settles (h : Record) (e : Entry) : Type 0 where
  pub conserves : Conserves h e
  pub accounts : Accounts h e
  pub turn : IsInTurn h e

-- each entry does
abbrev pub IsAccounted : Record → Type 0
IsAccounted [] = Unit {0}
IsAccounted (e ∷ h) = Settles h e × IsAccounted h
