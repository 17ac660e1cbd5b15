-- A copy was spent, and the notice of its batch was given where that was due.
use Rattle.std.specs.Prelude.{◌≡◌, ◌⊎◌, ◌<◌, ◌+◌, ◌==◌, ℕ, false, List, [], ◌∷◌, length, if◌then◌else◌}
use Rattle.vx_ends.specs.Observation.{Observation}
use Rattle.vx_status.specs.declared.outcome.Outcome.{Outcome}
use Rattle.vx_status.specs.declared.batch_status.BatchStatus.{BatchStatus}
use Rattle.vx_ledger.specs.Ledger.{Ledger}
use Rattle.vx_record.specs.declared.entry.Entry.{Entry}
use Rattle.vx_record.specs.declared.entry.Entry.TheVariants.{Spent, Notice}
use Rattle.vx_record.specs.Records.{Record}
use Rattle.vx_record.specs.Legal.{IsLegal}
use Rattle.vx_record.specs.Additions.{OnlyAdds}
use Rattle.vx_record.specs.Copies.{count, joined, next_copy, times_spent}
use Rattle.vx_record.specs.Spending.{oldest, HasCause}
use Rattle.vx_record.specs.Abandoning.{MayStillCome}
use Rattle.vx_record.specs.Places.{Place, owner, same_place}
use Rattle.vx_record.specs.Shifts.{at}
use Rattle.vx_balance.specs.Balances.{Balances}
use Rattle.vx_balance.specs.Live.{sum_below}
use Rattle.vx_instances.specs.declared.state.InstanceState.{InstanceState}
use Rattle.vx_instances.specs.Knowing.{Knows}
use Rattle.vx_moves.specs.Leaving.{Leaves}
use Rattle.vx_moves.specs.Stands.{Stands}
use Rattle.vx_moves.specs.declared.engine.EngineState.{EngineState}

-- a spend of the instance with that outcome, or a notice
abbrev pub IsSpendOf : ℕ → Outcome → Record → Entry → Type 0
IsSpendOf i outcome h (Spent j c other) = (j ≡ i) × (other ≡ outcome)
IsSpendOf i outcome h (Notice b status) = Unit {0}
IsSpendOf i outcome h other = ⊥

-- the copies of the oldest parcel at a place may be spent so
pub record MaySpendFrom (h : Record) (p : Place) (outcome : Outcome) : Type 0 where
  pub cause : (c : ℕ) → 0 < count c (oldest (at h p)) → HasCause h (owner p) c outcome
  pub left : (c : ℕ) → MayStillCome h (Spent (owner p) c outcome)

-- all copies at a place may be spent so
pub record MaySpendAll (h : Record) (p : Place) (outcome : Outcome) : Type 0 where
  pub cause : (c : ℕ) → 0 < count c (joined (at h p)) → HasCause h (owner p) c outcome
  pub left : (c : ℕ) → MayStillCome h (Spent (owner p) c outcome)

-- how many of the copies that were made aren't spent, those among them that a split replaced; it falls by one at each spend
abbrev pub unspent : Record → ℕ
unspent h = sum_below (λ c. if times_spent h c == 0 then 1 else 0) (next_copy h)

-- a spend was noted, and perhaps a notice directly behind it
abbrev pub IsNotedAs : Entry → Record → Record → Type 0
IsNotedAs e h log = (log ≡ e ∷ h) ⊎ ((b : ℕ) × ((status : BatchStatus) × (log ≡ Notice b status ∷ e ∷ h)))

-- so it was, and the open batches and what is known of the instances are those of the record behind it
pub record IsSettled {P : Type 0} (observe : P → Observation) (e : Entry) (h log : Record) (account : Ledger) (states : List (InstanceState P)) : Type 0 where
  pub noted : IsNotedAs e h log
  pub legal : IsLegal log
  pub balances : Balances account log
  pub knows : Knows observe states log

-- a copy of the oldest parcel at a place was spent so, and perhaps a notice given; the place lost that copy, and every other has what
-- it had
pub record HasSpent {P : Type 0} (observe : P → Observation) (p : Place) (outcome : Outcome) (old new : EngineState P) : Type 0 where
  pub copy : ℕ
  pub was : 0 < count copy (oldest (at old.log p))
  pub noted : IsNotedAs (Spent (owner p) copy outcome) old.log new.log
  pub only : OnlyAdds (IsSpendOf (owner p) outcome) old.log new.log
  pub stands : Stands observe new
  pub lost : (c : ℕ) → count c (joined (at new.log p)) + count c (copy ∷ []) ≡ count c (joined (at old.log p))
  pub fewer : length (joined (at new.log p)) + 1 ≡ length (joined (at old.log p))
  pub left : unspent new.log + 1 ≡ unspent old.log
  pub others : (q : Place) → same_place p q ≡ false → at new.log q ≡ at old.log q
  pub leaves : Leaves old new
  pub size : length new.states ≡ length old.states

-- copies of an instance were spent so, and notices given, and nothing else was done; a place that had no parcel still has none
pub record OnlySpends {P : Type 0} (observe : P → Observation) (i : ℕ) (outcome : Outcome) (old new : EngineState P) : Type 0 where
  pub only : OnlyAdds (IsSpendOf i outcome) old.log new.log
  pub stands : Stands observe new
  pub empty : (q : Place) → at old.log q ≡ [] → at new.log q ≡ []
  pub others : (q : Place) → (owner q ≡ i → ⊥) → at new.log q ≡ at old.log q
  pub leaves : Leaves old new
  pub size : length new.states ≡ length old.states
