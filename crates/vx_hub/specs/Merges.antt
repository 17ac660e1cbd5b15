-- What instances do that merge events.
use Rattle.std.specs.Prelude.{◌≡◌, ◌<◌, ◌∷◌, ℕ, true, false, length, None}
use Rattle.vx_status.specs.declared.outcome.Outcome.TheVariants.{Filtered}
use Rattle.vx_record.specs.declared.entry.Entry.{Entry}
use Rattle.vx_record.specs.declared.entry.Entry.TheVariants.{Lease, Home, Take, Tick, Answer, Spent, Notice}
use Rattle.vx_record.specs.Records.{Record}
use Rattle.vx_record.specs.Additions.{OnlyAdds}
use Rattle.vx_record.specs.Ceasing.{cause_of}
use Rattle.vx_record.specs.Installs.{started}
use Rattle.vx_record.specs.Ready.{is_ready, IsTickReady}
use Rattle.vx_record.specs.Turns.{is_out}
use Rattle.vx_keeping.specs.Keeping.{RunsHost}
use Rattle.vx_tasks.specs.Joining.{joins_at}
use Rattle.vx_moves.specs.declared.engine.EngineState.{EngineState}
use Rattle.vx_moves.specs.Keepers.{CanAnswer, IsKeeper}
use Rattle.vx_ready.specs.Asking.{IsSettled, IsOpen}

-- of an instance that was leased at a moment: it takes, acts by itself at that moment, answers, spends what it discards, and comes back;
-- or a notice
abbrev pub IsMergeAt : ℕ → ℕ → Record → Entry → Type 0
IsMergeAt i now h (Take j stage copies) = j ≡ i
IsMergeAt i now h (Tick j moment) = (j ≡ i) × (moment ≡ now)
IsMergeAt i now h (Answer j outputs discarded kept) = j ≡ i
IsMergeAt i now h (Spent j c outcome) = (j ≡ i) × (outcome ≡ Filtered)
IsMergeAt i now h (Notice b status) = Unit {0}
IsMergeAt i now h (Home j) = j ≡ i
IsMergeAt i now h other = ⊥

-- an instance that merges was leased to a worker at a moment, did what there was to do, and is unleased
pub record HasDoneOne (worker now : ℕ) (old new : Record) : Type 0 where
  pub who : ℕ
  pub joins : joins_at old who ≡ true
  pub noted : OnlyAdds (IsMergeAt who now) (Lease who worker now 0 ∷ old) new
  pub unleased : is_out new who ≡ false

-- no tick is due of an instance that merges, is unleased, owes nothing and can answer, unless it runs a transform that the program hands
-- in, which says alone when it acts
abbrev pub NoTickDueAt : {P : Type 0} → EngineState P → ℕ → ℕ → Type 0
NoTickDueAt engine now i =
    IsSettled engine i → IsOpen engine i → IsKeeper CanAnswer engine.keepers.items i → (RunsHost engine.log i → ⊥) → IsTickReady engine.log i now → ⊥

-- an instance that merges, is unleased and owes nothing has nothing to do
pub record NoneMergesAt {P : Type 0} (engine : EngineState P) (now i : ℕ) : Type 0 where
  pub unready : IsSettled engine i → IsOpen engine i → is_ready engine.log i now ≡ false
  pub early : NoTickDueAt engine now i

-- of none that merges is a tick due
abbrev pub NoTickDue : {P : Type 0} → EngineState P → ℕ → Type 0
NoTickDue engine now = (i : ℕ) → joins_at engine.log i ≡ true → NoTickDueAt engine now i

-- none that merges and is unleased has anything to take or to put out, in a run that wasn't given up
abbrev pub NoneMerges : Record → ℕ → Type 0
NoneMerges h now = cause_of h ≡ None → (i : ℕ) → i < length (started h) → is_out h i ≡ false → joins_at h i ≡ true → is_ready h i now ≡ false
