-- What a hub leaves behind.
use Rattle.std.specs.Prelude.{◌≡◌, ◌↔◌, ℕ, ◌+◌, ◌<◌, List, [], ◌∷◌, ◌++◌, length, true, false, IfSome, IsSome, IsSomeAnd, slice_get}
use Rattle.vx_ends.specs.Observation.{Observation}
use Rattle.vx_status.specs.declared.batch_status.BatchStatus.{BatchStatus}
use Rattle.vx_status.specs.declared.batch_status.BatchStatus.TheVariants.{Delivered}
use Rattle.vx_record.specs.Records.{Record}
use Rattle.vx_record.specs.declared.entry.Entry.TheVariants.{Notice}
use Rattle.vx_record.specs.Copies.{count, next_copy, times_split, times_spent}
use Rattle.vx_record.specs.Batches.{batches, awaits_notice}
use Rattle.vx_record.specs.Statuses.{batch_status, AllGood}
use Rattle.vx_record.specs.Laws.{times_noticed}
use Rattle.vx_record.specs.Lists.{places}
use Rattle.vx_record.specs.Installs.{device_at, is_closed, is_retired}
use Rattle.vx_record.specs.Legal.{IsLegal, IsClosed}
use Rattle.vx_tasks.specs.Observing.{IsObserved, IsObservedButGiven}
use Rattle.vx_instances.specs.declared.state.InstanceState.{InstanceState}
use Rattle.vx_instances.specs.Calls.{IsClosedBy}
use Rattle.vx_hub.specs.declared.parts.Numbered.{Numbered}
use Rattle.vx_hub.specs.Making.{AreServed}

-- each copy that was made by then was split once, or was spent once, or stands in one place, once, at any time of the record
abbrev pub HasOnePlace : Record → Type 0
HasOnePlace h =
    (later earlier : Record) → later ++ earlier ≡ h → (c : ℕ) → c < next_copy earlier →
    times_split earlier c + times_spent earlier c + length (places earlier c) ≡ 1

-- each copy that was made was split once or spent once
abbrev pub AllSpent : Record → Type 0
AllSpent h = (c : ℕ) → c < next_copy h → times_split h c + times_spent h c ≡ 1

-- each batch has one notice; it stands directly behind the spend of the last copy that was live of it, has the status that
-- the tables fold over its spends, and is Delivered exactly where each of its outcomes in the whole record is good
pub record HasNotices (h : Record) : Type 0 where
  pub once : (b : ℕ) → 0 < count b (batches h) → times_noticed h b ≡ 1
  pub due : (later earlier : Record) (b : ℕ) (status : BatchStatus) → later ++ Notice b status ∷ earlier ≡ h → awaits_notice earlier b ≡ true
  pub folded : (later earlier : Record) (b : ℕ) (status : BatchStatus) → later ++ Notice b status ∷ earlier ≡ h → status ≡ batch_status earlier b
  pub good : (later earlier : Record) (b : ℕ) (status : BatchStatus) → later ++ Notice b status ∷ earlier ≡ h → (status ≡ Delivered) ↔ AllGood h b

-- the port of each of so many instances that has one was closed, and each was retired
abbrev pub HasEnds : ℕ → Record → Type 0
HasEnds n h = (i : ℕ) → i < n → (device_at h i ≡ true → is_closed h i ≡ true) × (is_retired h i ≡ true)

-- the ports are those of the instances from `first` on, none left out
abbrev pub AreNumbered : {P : Type 0} → ℕ → List (Numbered P) → Type 0
AreNumbered first [] = Unit {0}
AreNumbered first (n ∷ ns) = (n.instance ≡ first) × AreNumbered (first + 1) ns

-- each instance is unleased
abbrev pub AreUnleased : {P : Type 0} → List (InstanceState P) → Type 0
AreUnleased states = (i : ℕ) → IfSome (slice_get states i) (λ state. IsSome state.task)

-- a port is that of a state's task, which was closed
abbrev pub IsPortOf : {P : Type 0} → (P → Observation) → List (InstanceState P) → ℕ → Numbered P → Type 0
IsPortOf observe states i n = IsSomeAnd (slice_get states i) (λ state. IsSomeAnd state.task (λ task. IsClosedBy (observe task.port) (observe n.port)))

-- each is that of the instance in its place
abbrev pub ArePortsOf : {P : Type 0} → (P → Observation) → List (InstanceState P) → List (Numbered P) → Type 0
ArePortsOf observe states ports = (i : ℕ) → IfSome (slice_get ports i) (IsPortOf observe states i)

-- no port is started
abbrev pub AreClosed : {P : Type 0} → (P → Observation) → List (Numbered P) → Type 0
AreClosed observe [] = Unit {0}
AreClosed observe (n ∷ ns) = ((observe n.port).started ≡ false) × AreClosed observe ns

-- each port tells what the record has of its instance
abbrev pub AreObserved : {P : Type 0} → (P → Observation) → Record → List (Numbered P) → Type 0
AreObserved observe h [] = Unit {0}
AreObserved observe h (n ∷ ns) = IsObserved (observe n.port) h n.instance × AreObserved observe h ns

-- so it does but for the bytes that it was given, of which it may tell more
abbrev pub AreObservedButGiven : {P : Type 0} → (P → Observation) → Record → List (Numbered P) → Type 0
AreObservedButGiven observe h [] = Unit {0}
AreObservedButGiven observe h (n ∷ ns) = IsObservedButGiven (observe n.port) h n.instance × AreObservedButGiven observe h ns

-- a run that ended: its record is legal and leaves nothing to do, each copy was in one place and is split or spent, each batch has
-- its notice, and each of so many instances its end
pub record HasEnded (n : ℕ) (h : Record) : Type 0 where
  pub legal : IsLegal h
  pub served : AreServed h
  pub finished : IsClosed h
  pub places : HasOnePlace h
  pub spent : AllSpent h
  pub notices : HasNotices h
  pub ends : HasEnds n h
