-- What each call does to the open batches of every record, and what holds of them beside.
use Rattle.std.specs.Prelude.{ℕ, ◌+◌, ◌*◌, ◌^◌, ◌<◌, ◌≤◌, ◌≡◌, ◌↔◌, Bool, true, false, List, [], ◌∷◌, ◌++◌, length}
use Rattle.vx_value.specs.declared.event.Event.{Event}
use Rattle.vx_status.specs.declared.outcome.Outcome.{Outcome}
use Rattle.vx_ledger.specs.Copies.{Copy, children_of, numbers_of}
use Rattle.vx_ledger.specs.Ledger.{Ledger}
use Rattle.vx_ledger.specs.Routing.{children_for}
use Rattle.vx_ledger.specs.declared.child.Child.{Child as Sent}
use Rattle.vx_ledger.specs.declared.parcel.Parcel.{Parcel}
use Rattle.vx_ledger.specs.declared.notice.Notice.{Notice as GivenNotice}
use Rattle.vx_record.specs.declared.child.Child.{Child}
use Rattle.vx_record.specs.declared.entry.Entry.{Entry}
use Rattle.vx_record.specs.declared.entry.Entry.TheVariants.{Install, Lease, Home, Read, Idle, SourceLost, Born, Split, Push, Take, Tick, Answer, Attempt, Spent, Notice, Confirm, Closed, Retired, Abandon}
use Rattle.vx_record.specs.Records.{Record}
use Rattle.vx_record.specs.Copies.{count, counting, IsLive, children_of as split_children}
use Rattle.vx_record.specs.Batches.{batches, has_live}
use Rattle.vx_record.specs.Confirms.{is_noticed}
use Rattle.vx_record.specs.Places.{Place}
use Rattle.vx_record.specs.Lists.{stands, parcels_at}
use Rattle.vx_record.specs.Sending.{IsOldest}
use Rattle.vx_record.specs.Owing.{all_noticed}
use Rattle.vx_record.specs.Accounting.{IsInTurn}
use Rattle.vx_record.specs.Spending.{MayNotice}
use Rattle.vx_record.specs.Legal.{IsLegal}
use Rattle.vx_balance.specs.Live.{live_copies}
use Rattle.vx_balance.specs.Births.{unnoticed, batches_in, created_by, IsAmong}
use Rattle.vx_balance.specs.Owned.{noted, IsOfBatch, AreOfBatch, EachOfBatch, AreHeld}
use Rattle.vx_balance.specs.Balances.{Balances}

-- what balanced a record balances it with one entry more, where that is legal
abbrev pub Carries : Record → Entry → Ledger → Ledger → Type 0
Carries h e old new = IsLegal (e ∷ h) → Balances old h → Balances new (e ∷ h)

-- a batch of n copies, which have the next numbers, was born to an instance
pub record CreatesBatch (i n b : ℕ) (copies : List Copy) (old new : Ledger) : Type 0 where
  pub number : b ≡ old.next
  pub numbers : numbers_of copies ≡ counting old.next n
  pub fits : old.next + n ≤ 2 ^ 63
  pub carries : (h : Record) (place : ℕ) (events : List Event) (waits : Bool) (stream end : ℕ) →
      Carries h (Born i b place (numbers_of copies) events waits stream end) old new
  pub of_batch : (h : Record) (place : ℕ) (events : List Event) (waits : Bool) (stream end : ℕ) →
      IsLegal (Born i b place (numbers_of copies) events waits stream end ∷ h) →
      AreOfBatch (Born i b place (numbers_of copies) events waits stream end ∷ h) copies

-- some copies were replaced by children for k targets, one list a target
pub record Splits (k : ℕ) (parent : List Copy) (children : List (List Copy)) (old new : Ledger) : Type 0 where
  pub made : children ≡ children_of k old.next parent
  pub fits : old.next + k * length parent ≤ 2 ^ 63
  pub carries : (h : Record) (i ports : ℕ) (event : Event) (noted : List Child) → length noted ≡ k → AreOfBatch h parent →
      Carries h (Split i ports (numbers_of parent) event noted) old new
  pub of_batch : (h : Record) (i ports : ℕ) (event : Event) (noted : List Child) → length noted ≡ k → AreOfBatch h parent →
      IsLegal (Split i ports (numbers_of parent) event noted ∷ h) → Balances old h →
      EachOfBatch (Split i ports (numbers_of parent) event noted ∷ h) children

-- the copies of some parcels on their way
abbrev pub lists_of : List Sent → List (List Copy)
lists_of [] = []
lists_of (child ∷ rest) = child.parcel.finalizers ∷ lists_of rest

-- a parcel was split to some targets: each gets a child with the parcel's event
pub record Routes (targets : List ℕ) (parcel : Parcel) (children : List Sent) (old new : Ledger) : Type 0 where
  pub made : children ≡ children_for targets old.next parcel
  pub splits : Splits (length targets) parcel.finalizers (lists_of children) old new

-- a copy was spent, and another of its batch is live: no notice is due
pub record LeavesOpen (copy : Copy) (outcome : Outcome) (old new : Ledger) : Type 0 where
  pub carries : (h : Record) (i : ℕ) → IsOfBatch h copy → Carries h (Spent i copy.number outcome) old new

-- the last live copy of a batch was spent: its notice may stand directly behind, with the status that the tables fold, and
-- then the batches balance
pub record ClosesBatch (copy : Copy) (outcome : Outcome) (old new : Ledger) (given_notice : GivenNotice) : Type 0 where
  pub row : (h : Record) (i : ℕ) → IsOfBatch h copy → IsLegal (Spent i copy.number outcome ∷ h) → Balances old h →
      MayNotice (Spent i copy.number outcome ∷ h) given_notice.batch given_notice.status
  pub creator : (h : Record) (i : ℕ) → IsOfBatch h copy → IsLegal (Spent i copy.number outcome ∷ h) → Balances old h →
      IsAmong (record { number = given_notice.batch; creator = given_notice.instance }) (unnoticed h)
  pub carries : (h : Record) (i : ℕ) → IsOfBatch h copy → IsLegal (Spent i copy.number outcome ∷ h) → Balances old h →
      Balances new (Notice given_notice.batch given_notice.status ∷ Spent i copy.number outcome ∷ h)

-- an entry that is no birth, split, spend or notice
abbrev pub IsAside : Entry → Type 0
IsAside (Install version plan once instances now) = Unit {0}
IsAside (Lease i worker now polls) = Unit {0}
IsAside (Home i) = Unit {0}
IsAside (Read i stream took) = Unit {0}
IsAside (Idle i failed) = Unit {0}
IsAside (SourceLost i at failed) = Unit {0}
IsAside (Born i b place copies events waits stream end) = ⊥
IsAside (Split i ports copies event children) = ⊥
IsAside (Push i t s copies) = Unit {0}
IsAside (Take i s copies) = Unit {0}
IsAside (Tick i now) = Unit {0}
IsAside (Answer i outputs discarded kept) = Unit {0}
IsAside (Attempt i copies bytes reply) = Unit {0}
IsAside (Spent i c outcome) = ⊥
IsAside (Notice b status) = ⊥
IsAside (Confirm i positions made) = Unit {0}
IsAside (Closed i) = Unit {0}
IsAside (Retired i) = Unit {0}
IsAside (Abandon cause) = Unit {0}

-- behind such an entry the batches balance as before
abbrev pub AsideKept : Type 0
AsideKept = (account : Ledger) (h : Record) (e : Entry) → IsAside e → Balances account h → Balances account (e ∷ h)

-- any entry is in its turn where the batches balance
abbrev pub AnyInTurn : Type 0
AnyInTurn = (account : Ledger) (h : Record) (e : Entry) → Balances account h → IsInTurn h e

-- a copy stays one of its batch whatever comes
abbrev pub BatchStays : Type 0
BatchStays = (later earlier : Record) (copy : Copy) → IsOfBatch earlier copy → IsOfBatch (later ++ earlier) copy

-- the count of live copies is that of the record's rules: there is none exactly where none of the batch is live
abbrev pub CountsLive : Type 0
CountsLive = (h : Record) (b : ℕ) → (live_copies h b ≡ 0) ↔ (has_live h b ≡ false)

-- where no batch is open, nothing is left: no copy is live, and each batch has its notice
abbrev pub SettledCloses : Type 0
SettledCloses =
    (account : Ledger) (h : Record) → Balances account h → account.open_rows ≡ [] →
    ((c : ℕ) → IsLive h c → ⊥) × ((b : ℕ) → 0 < count b (batches h) → is_noticed h b ≡ true)

-- one copy of its batch is held where it is live
abbrev pub OneHeld : Type 0
OneHeld = (h : Record) (copy : Copy) → IsOfBatch h copy → IsLive h copy.number → AreHeld h (copy ∷ [])

-- the oldest parcel at a place is held where its copies are of their batches
abbrev pub OldestHeld : Type 0
OldestHeld =
    (h : Record) (p : Place) (copies : List Copy) → IsLegal h → IsOldest (numbers_of copies) (parcels_at p (stands h)) → AreOfBatch h copies →
    AreHeld h copies

-- an instance created none of the open batches exactly where each batch of it is noticed
abbrev pub NoneCreated : Type 0
NoneCreated =
    (account : Ledger) (h : Record) (i : ℕ) → Balances account h →
    (created_by i (batches_in account.open_rows) ≡ 0) ↔ (all_noticed h i ≡ true)

-- the lists that a split gives are the children that its entry has, for whatever targets
abbrev pub ChildrenNoted : Type 0
ChildrenNoted =
    (targets : List ℕ) (next : ℕ) (parent : List Copy) →
    noted targets (children_of (length targets) next parent) ≡ split_children next (length parent) targets
