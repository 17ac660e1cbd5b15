-- When the open batches are those of a record.
use Rattle.std.specs.Prelude.{ℕ, ◌≡◌, false, List, [], ◌∷◌}
use Rattle.vx_ledger.specs.Copies.{Copy}
use Rattle.vx_ledger.specs.Ledger.{Ledger, IsKept, live_count}
use Rattle.vx_ledger.specs.declared.open_batch.OpenBatch.{OpenBatch}
use Rattle.vx_record.specs.Records.{Record}
use Rattle.vx_record.specs.Copies.{next_copy}
use Rattle.vx_record.specs.Batches.{is_notice_due}
use Rattle.vx_record.specs.Statuses.{running}
use Rattle.vx_balance.specs.Live.{live_copies}
use Rattle.vx_balance.specs.Births.{batches_in, unnoticed}
use Rattle.vx_balance.specs.Owned.{AreHeld}

-- the status of each open batch is the one into which the spends of its copies were folded
abbrev pub AreRunning : Record → List OpenBatch → Type 0
AreRunning h [] = Unit {0}
AreRunning h (r ∷ rs) = (r.status ≡ running h r.number) × AreRunning h rs

-- the open batches are those of the record that have no notice, each with its creator, its live copies and its status so
-- far; the next copy has the next number; and any entry may stand behind, since no notice is due
pub record Balances (account : Ledger) (h : Record) : Type 0 where
  pub next : account.next ≡ next_copy h
  pub live : (b : ℕ) → live_count b b account.open_rows ≡ live_copies h b
  pub opens : batches_in account.open_rows ≡ unnoticed h
  pub statuses : AreRunning h account.open_rows
  pub noticeless : is_notice_due h ≡ false
  pub kept : IsKept account

-- a record balances in which some copies are held
pub record HasHeld (account : Ledger) (copies : List Copy) : Type 0 where
  pub known : Record
  pub balances : Balances account known
  pub held : AreHeld known copies
