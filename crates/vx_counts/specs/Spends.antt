-- Which parcel a copy was put in decides whose count rises where it is spent.
use Rattle.std.specs.Prelude.{ℕ, ◌<◌, ◌≡◌, ◌==◌, ◌&&◌, true, false, Some, List, ◌∷◌, ◌++◌}
use Rattle.vx_plan.specs.declared.class.Class.TheVariants.{Sink}
use Rattle.vx_status.specs.declared.outcome.Outcome.{Outcome}
use Rattle.vx_status.specs.declared.outcome.Outcome.TheVariants.{Delivered, Filtered, NewestDropped, NoConsumer, Attempts, Abandoned, Refusal}
use Rattle.vx_record.specs.Records.{Record}
use Rattle.vx_record.specs.Copies.{count, joined}
use Rattle.vx_record.specs.Places.{Place, Put, all_puts}
use Rattle.vx_record.specs.Places.Place.{Outputs, Waiting, Held}
use Rattle.vx_record.specs.Lists.{stands, parcels_at}
use Rattle.vx_record.specs.Parcels.{first_copy}
use Rattle.vx_record.specs.Tallies.{is_first}
use Rattle.vx_counts.specs.Classes.{class_at, IsGiver}

-- a copy stands at a place
abbrev pub StandsAt : Record → Place → ℕ → Type 0
StandsAt h p c = 0 < count c (joined (parcels_at p (stands h)))

-- a parcel of these copies was put at a place, whole
abbrev pub WasPut : Record → Place → List ℕ → Type 0
WasPut h p copies = (before after : List Put) × (all_puts h ≡ before ++ record { place = p; copies = copies } ∷ after)

-- the copy was put at a place in a parcel of these copies
pub record WasPutIn (h : Record) (p : Place) (copies : List ℕ) (c : ℕ) : Type 0 where
  pub put : WasPut h p copies
  pub has : 0 < count c copies

-- a copy for want of a reader counts elsewhere, or not at all: another instance put it out, or it isn't the first of its parcel
pub record IsReadElsewhere (h : Record) (i c : ℕ) : Type 0 where
  pub giver : ℕ
  pub copies : List ℕ
  pub put : WasPutIn h (Outputs giver) copies c
  pub apart : ((giver == i) && (c == first_copy copies)) ≡ false

-- so does a copy that is dropped as the newest: it waits for another target, or it isn't the first of its parcel
pub record IsNewElsewhere (h : Record) (i c : ℕ) : Type 0 where
  pub giver : ℕ
  pub target : ℕ
  pub copies : List ℕ
  pub put : WasPutIn h (Waiting giver target) copies c
  pub apart : ((target == i) && (c == first_copy copies)) ≡ false

-- the copy is the first of a parcel that the instance put out
pub record BeginsUnread (h : Record) (i c : ℕ) : Type 0 where
  pub copies : List ℕ
  pub put : WasPutIn h (Outputs i) copies c
  pub first : c ≡ first_copy copies

-- the copy is the first of a parcel that waits for the instance
pub record BeginsNewest (h : Record) (i c : ℕ) : Type 0 where
  pub giver : ℕ
  pub copies : List ℕ
  pub put : WasPutIn h (Waiting giver i) copies c
  pub first : c ≡ first_copy copies

-- no parcel that a sink took begins with the copy
abbrev pub BeginsNone : Record → ℕ → ℕ → Type 0
BeginsNone h i c = class_at h i ≡ Some Sink → is_first h i c ≡ false

-- a copy that is spent so counts for other instances, or for none
abbrev pub SpendsElsewhere : Record → ℕ → ℕ → Outcome → Type 0
SpendsElsewhere h i c Delivered = BeginsNone h i c
SpendsElsewhere h i c Filtered = Unit {0}
SpendsElsewhere h i c NewestDropped = class_at h i ≡ Some Sink → IsNewElsewhere h i c
SpendsElsewhere h i c NoConsumer = IsGiver (class_at h i) → IsReadElsewhere h i c
SpendsElsewhere h i c Attempts = BeginsNone h i c
SpendsElsewhere h i c Abandoned = BeginsNone h i c
SpendsElsewhere h i c Refusal = BeginsNone h i c

-- a parcel that a sink took begins with the copy
abbrev pub BeginsOne : Record → ℕ → ℕ → Type 0
BeginsOne h i c = (class_at h i ≡ Some Sink) × (is_first h i c ≡ true)

-- a copy that is spent so counts for the instance
abbrev pub SpendsHere : Record → ℕ → ℕ → Outcome → Type 0
SpendsHere h i c Delivered = BeginsOne h i c
SpendsHere h i c Filtered = ⊥
SpendsHere h i c NewestDropped = (class_at h i ≡ Some Sink) × BeginsNewest h i c
SpendsHere h i c NoConsumer = IsGiver (class_at h i) × BeginsUnread h i c
SpendsHere h i c Attempts = BeginsOne h i c
SpendsHere h i c Abandoned = BeginsOne h i c
SpendsHere h i c Refusal = BeginsOne h i c

-- where a copy stands that an instance spends so: what a sink was answered for and what a transform discarded it holds, what had no
-- target it put out, and what was the newest waits in it for a target
abbrev pub HasPlace : Record → ℕ → ℕ → Outcome → Type 0
HasPlace h i c Delivered = StandsAt h (Held i) c
HasPlace h i c Filtered = StandsAt h (Held i) c
HasPlace h i c NewestDropped = (t : ℕ) × StandsAt h (Waiting i t) c
HasPlace h i c NoConsumer = StandsAt h (Outputs i) c
HasPlace h i c Attempts = StandsAt h (Held i) c
HasPlace h i c Abandoned = (p : Place) × StandsAt h p c
HasPlace h i c Refusal = StandsAt h (Held i) c
