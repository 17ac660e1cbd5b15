-- What instances keep that merge, as a hub begins and as it ends.
use Rattle.std.proofs.Common.{◌≡◌, ◌∙◌, ℕ, zero, suc, ◌<◌, inl, inr, Bool, true, false, is_some, List, [], ◌∷◌, ◌++◌, Option, Some, None, IfSome, IsSome, ◌+◌, length, refl, sym, ap, arith}
use Rattle.std.specs.Prelude.{if◌then◌else◌, slice_get}
use Rattle.std.proofs.lemmas.Bool.{cases_eq}
use Rattle.std.proofs.lemmas.Option.{IfSome_then}
use Rattle.vx_value.specs.Filled.{Filled}
use Rattle.vx_ledger.specs.declared.parcel.Parcel.{Parcel}
use Rattle.vx_plan.specs.declared.component.Component.{Component}
use Rattle.vx_record.specs.Records.{Record}
use Rattle.vx_record.specs.Inputs.{inputs, ticks_wait}
use Rattle.vx_record.specs.Installs.{component_of}
use Rattle.vx_record.specs.Places.{Place}
use Rattle.vx_record.specs.Places.Place.{Held}
use Rattle.vx_record.specs.Shifts.{at}
use Rattle.vx_places.specs.Capacities.{line_capacity, held_capacity_if}
use Rattle.vx_places.specs.Holding.{Holds}
use Rattle.vx_places.specs.Numbers.{numbers}
use Rattle.vx_places.specs.Views.{held_items, here_if, parcels_here}
use Rattle.vx_places.specs.declared.row.Row.{Row}
use Rattle.vx_keeping.specs.Kept.{Kept, copies_kept}
use Rattle.vx_moves.specs.Keepers.{keeper_at, IsKept}
use Rattle.vx_hub.specs.Beginning.{AddsPlace, HaveCapacities}
use Rattle.vx_hub.specs.Making.{IsSlotFor, AreSlots, AreBare}
use Rattle.vx_hub.specs.Standing.{merges}
use Rattle.vx_hub.proofs.Resting.{some_then}

-- SLOTS
-- what stands in the slot of an instance by its component
abbrev pub SlotSays : Option Component → Option Kept → Type 0
SlotSays None slot = slot ≡ None
SlotSays (Some c) slot = IsSlotFor c slot

pub slots_at : (components : List Component) (slots : List (Option Kept)) → AreSlots components slots → (i : ℕ) → SlotSays (slice_get components i) (keeper_at slots i)
slots_at [] [] all i = refl
slots_at [] (slot ∷ rest) all i = absurd all
slots_at (c ∷ components) [] all i = absurd all
slots_at (c ∷ components) (slot ∷ rest) all zero = all.0
slots_at (c ∷ components) (slot ∷ rest) all (suc i) = slots_at components rest all.1 i

pub slots_size : (components : List Component) (slots : List (Option Kept)) → AreSlots components slots → length slots ≡ length components
slots_size [] [] all = refl
slots_size [] (slot ∷ rest) all = absurd all
slots_size (c ∷ components) [] all = absurd all
slots_size (c ∷ components) (slot ∷ rest) all = ap suc (slots_size components rest all.1)

-- there is a keeper exactly where the component merges
pub whose_if : (o : Option Component) (k : Option Kept) → SlotSays o k → is_some k ≡ (elim o [ None ↦ false | Some c ↦ merges c ])
whose_if None k says = rw says refl
whose_if (Some c) None says = sym says
whose_if (Some c) (Some k) says = sym says.merging

-- and it has nothing, as a record in which the instance did nothing
pub kept_if : (h : Record) (i : ℕ) (o : Option Component) (k : Option Kept) → component_of h i ≡ o → SlotSays o k → inputs h i ≡ [] → at h (Held i) ≡ [] → ticks_wait h i ≡ false →
    IfSome k (λ kept. IsKept kept h i)
kept_if h i o None runs says given none unticked = tt
kept_if h i None (Some k) runs says given none unticked = cc
kept_if h i (Some c) (Some k) runs says given none unticked = record { keeps = says.keeps h i runs given none; cleared = λ fit. says.cleared; unticked = unticked }

-- NO COPIES
pub last_bare : (slots : List (Option Kept)) (slot : Option Kept) → AreBare (slots ++ slot ∷ []) → AreBare slots × IfSome slot (λ k. copies_kept k ≡ [])
last_bare [] slot bare = (tt, bare.0)
last_bare (first ∷ rest) slot bare = let more = last_bare rest slot bare.1 in ((bare.0, more.0), more.1)

pub bare_by : (slots : List (Option Kept)) → ((i : ℕ) → IfSome (keeper_at slots i) (λ k. copies_kept k ≡ [])) → AreBare slots
bare_by [] none = tt
bare_by (slot ∷ rest) none = (none zero, bare_by rest (λ i. none (suc i)))

-- HANDS
-- the room for what an instance holds, unless a keeper has it
pub hand_says : (b : Bool) (n : ℕ) (o : Option ℕ) → o ≡ (if b then None else Some n) → IfSome o (λ m. m ≡ n)
hand_says true n o is = rw is tt
hand_says false n o is = rw is refl

-- where there is some, what it holds is seen
pub hand_seen : (i n : ℕ) (o : Option Row) → held_capacity_if o ≡ Some n → IsSome (here_if (Held i) o)
hand_seen i n None is = cc
hand_seen i n (Some row) is = go row.held is
  where
    go : (line : Option (Filled Parcel)) → line_capacity line ≡ Some n → IsSome (held_items line)
    go None is = cc
    go (Some line) is = refl

pub alone_room : (b : Bool) (n : ℕ) (o : Option ℕ) → o ≡ (if b then None else Some n) → b ≡ false → o ≡ Some n
alone_room true n o is alone = cc
alone_room false n o is alone = is

pub joined_room : (b : Bool) (n : ℕ) (o : Option ℕ) → o ≡ (if b then None else Some n) → b ≡ true → o ≡ None
joined_room true n o is joins = is
joined_room false n o is joins = cc

-- PLACES
pub none_numbers : (parcels : List Parcel) → numbers parcels ≡ [] → parcels ≡ []
none_numbers [] none = refl
none_numbers (parcel ∷ rest) none = cc

-- nothing is seen at a place of an empty record
pub ended_first : (rows : List Row) → Holds rows [] → (p : Place) → IfSome (parcels_here rows p) (λ parcels. parcels ≡ [])
ended_first rows holds p = IfSome_then (parcels_here rows p) (holds.stand p) (λ parcels same. none_numbers parcels same)

-- there is a place more
pub capacities_more : (components : List Component) (old new : List Row) (c : Component) → AddsPlace c old new → length new ≡ length old + 1 → slice_get components (length old) ≡ Some c →
    HaveCapacities components old → HaveCapacities components new
capacities_more components old new c adds size there all i l = elim (cases_eq i (length old)) [
  | inl same ↦ rw (same, there) adds.one
  | inr other ↦ let less : i < length old = omega (arith, l, size, other) in some_then (slice_get components i) (all i less) (λ d has.
      let both = adds.others i less in record { stages = both.0 ∙ has.stages; held_limit = both.1 ∙ has.held_limit })
]
