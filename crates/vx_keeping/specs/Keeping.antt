-- When a keeper is that of a record.
use Rattle.std.specs.Prelude.{◌≡◌, ◌⊎◌, ◌<◌, ℕ, true, not, filter, Option, Some, None, List, [], ◌++◌, map, reverse, All, count_by}
use Rattle.vx_ledger.specs.Copies.{Copy, numbers_of}
use Rattle.vx_ledger.specs.declared.parcel.Parcel.{Parcel}
use Rattle.vx_transform.specs.Shelves.{Shelved}
use Rattle.vx_condition.specs.Steps.{comes}
use Rattle.vx_condition.specs.Reducing.{Settings}
use Rattle.vx_plan.specs.declared.component.Component.{Component}
use Rattle.vx_plan.specs.declared.settings.Settings.TheVariants as settings
use Rattle.vx_plan.specs.Components.{is_transform}
use Rattle.vx_record.specs.Records.{Record}
use Rattle.vx_record.specs.Copies.{count, joined, next_copy, times_spent}
use Rattle.vx_record.specs.Turns.{lease_now}
use Rattle.vx_record.specs.Places.Place.{Held}
use Rattle.vx_record.specs.Batches.{batch_of}
use Rattle.vx_record.specs.Installs.{component_of}
use Rattle.vx_record.specs.Inputs.{Input as NotedInput, unanswered, answered, is_tick}
use Rattle.vx_record.specs.Transforms.{reduces, RunsBy}
use Rattle.vx_record.specs.Tallies.{is_first}
use Rattle.vx_record.specs.Owing.{last_discarded}
use Rattle.vx_record.specs.Shifts.{at}
use Rattle.vx_record.specs.Legal.{IsLegal}
use Rattle.vx_places.specs.Numbers.{IsCopyIn}
use Rattle.vx_reduce.specs.declared.reduce.Reduce.{Reduce}
use Rattle.vx_reduce.specs.declared.reduce_settings.ReduceSettings.{ReduceSettings}
use Rattle.vx_reduce.specs.Groups.{put_all}
use Rattle.vx_reduce.specs.Inputs.{Input, outputs_over}
use Rattle.vx_reduce.specs.Standing.{settings_of, IsAt, IsMeant}
use Rattle.vx_keeping.specs.Kept.{Kept, nothing, copies_kept}
use Rattle.vx_keeping.specs.Given.{IsSound}

-- COPIES
-- a copy was made, and comes from the batch that it carries
pub record IsMade (h : Record) (copy : Copy) : Type 0 where
  pub made : copy.number < next_copy h
  pub batch : batch_of h copy.number ≡ copy.batch
  pub place : copy.place ≡ copy.batch

-- a keeper has the copies that the record has the instance hold, each as often, and the record knows them
pub record Accounts (k : Kept) (h : Record) (i : ℕ) : Type 0 where
  pub counted : (c : ℕ) → count c (joined (at h (Held i))) ≡ count c (numbers_of (copies_kept k))
  pub known : (copy : Copy) → IsCopyIn (copies_kept k) copy → IsMade h copy

-- INPUTS
-- an input of a reduce as a record tells it
abbrev pub noted_input : Input → NotedInput
noted_input x = record { step = x.step; copies = numbers_of x.copies }

-- a parcel that comes at a moment, as a record tells it
abbrev pub noted_input_at : ℕ → Parcel → NotedInput
noted_input_at now parcel = record { step = comes parcel.event now; copies = numbers_of parcel.finalizers }

-- the parcels that the instance took since its last Answer, in order
abbrev pub taken_in : Record → ℕ → List NotedInput
taken_in h i = reverse (filter (λ (x : NotedInput). not (is_tick x.step)) (unanswered h i))

-- THE RULE
-- the instance runs a transform that reduces by these settings
pub record RunsWith (h : Record) (i : ℕ) (s : ReduceSettings) : Type 0 where
  pub component : Component
  pub runs : component_of h i ≡ Some component
  pub transform : is_transform component ≡ true
  pub set : component.settings ≡ settings.Reduce s.group_by s.starts_when s.ends_when s.expire_after_ms s.flush_period_ms s.strategies

-- the instance runs a transform that the program hands in
pub record RunsHost (h : Record) (i : ℕ) : Type 0 where
  pub component : Component
  pub runs : component_of h i ≡ Some component
  pub transform : is_transform component ≡ true
  pub set : component.settings ≡ settings.Host

-- a reduce holds nothing and put nothing out, or its conditions mean something
abbrev pub IsBareOrMeant : Reduce → Shelved → Type 0
IsBareOrMeant r shelf = ((r.groups ≡ []) × (shelf ≡ nothing)) ⊎ IsMeant r

-- a reduce is set as the record has it, and was given what the instance has answered and then some more: by whatever tests its
-- conditions mean, it stands for that, and what these have it put out stands on the shelf; nothing is discarded
pub record HasReduced (r : Reduce) (on : Shelved) (gone : List Copy) (h : Record) (i : ℕ) (behind : List NotedInput) : Type 0 where
  pub set : RunsWith h i (settings_of r)
  pub earlier : List Input
  pub more : List Input
  pub answered : map noted_input earlier ≡ answered h i
  pub given : map noted_input more ≡ behind
  pub stands : (s : Settings) → RunsBy h i (reduces s) → IsAt s (reverse more ++ earlier) r
  pub shelf : (s : Settings) → RunsBy h i (reduces s) → on ≡ put_all nothing (outputs_over s earlier more)
  pub meant : IsBareOrMeant r on
  pub discarded : gone ≡ []

-- the instance runs a host, and what that put out is sound, which is nothing where it was given nothing
pub record HasHosted (on : Shelved) (h : Record) (i : ℕ) (behind : List NotedInput) : Type 0 where
  pub set : RunsHost h i
  pub sound : All IsSound on.outputs
  pub dropped : on.dropped ≡ []
  pub bare : behind ≡ [] → on ≡ nothing

-- a maker was given some more behind what is answered
abbrev pub HasMakerGiven : Option Reduce → Shelved → List Copy → Record → ℕ → List NotedInput → Type 0
HasMakerGiven (Some r) on gone h i behind = HasReduced r on gone h i behind
HasMakerGiven None on gone h i behind = HasHosted on h i behind

-- so it is of a keeper's, and no copy of it is given up
pub record HasGiven (k : Kept) (h : Record) (i : ℕ) (behind : List NotedInput) : Type 0 where
  pub by : HasMakerGiven k.maker k.shelf k.discarded h i behind
  pub loose : k.loose ≡ None

-- of what the instance's last Answer discarded, at most these copies are unspent
abbrev pub OwesOnly : Record → ℕ → List ℕ → Type 0
OwesOnly h i left = (c : ℕ) → 0 < count c (last_discarded h i) → times_spent h c ≡ 0 → 0 < count c left

-- BETWEEN ANSWERS
-- it was given what is answered and no more, nothing stands on the shelf, the parcels that were taken are those that the record
-- has as taken since then, in order, at the moment of the instance's last Lease, and what the last Answer discarded is spent or still
-- there
pub record IsAbreast (k : Kept) (h : Record) (i : ℕ) : Type 0 where
  pub given : HasGiven k h i []
  pub bare : k.shelf ≡ nothing
  pub taken : map (noted_input_at (lease_now h i)) k.taken.items ≡ taken_in h i
  pub owed : OwesOnly h i (numbers_of k.discarded)
  pub dropped : k.dropped ≡ 0

-- so it is of a keeper that is fit; of any, the copies are accounted for
pub record Keeps (k : Kept) (h : Record) (i : ℕ) : Type 0 where
  pub accounts : Accounts k h i
  pub abreast : k.fit ≡ true → IsAbreast k h i

-- BEFORE AN ANSWER
-- it was given these inputs behind what is answered, and no parcel waits; what the last Answer discarded is spent, and what the next
-- one discards are so many parcels, none where nothing was given
pub record HasMade (k : Kept) (h : Record) (i : ℕ) (behind : List NotedInput) : Type 0 where
  pub accounts : Accounts k h i
  pub fit : k.fit ≡ true
  pub taken : k.taken.items ≡ []
  pub given : HasGiven k h i behind
  pub settled : OwesOnly h i []
  pub clear : behind ≡ [] → (k.discarded ≡ []) × (k.dropped ≡ 0)
  pub counted : IsLegal h → k.dropped ≡ count_by (is_first h i) (numbers_of k.discarded)
