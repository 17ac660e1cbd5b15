-- What a hub is made of.
use Rattle.std.specs.Prelude.{◌≡◌, ◌⊎◌, ℕ, true, false, List, [], ◌∷◌, Option, Some, None, IfSome}
use Rattle.vx_ends.specs.Observation.{Observation, Fits}
use Rattle.vx_ends.specs.declared.port_spec.PortSpec.{PortSpec}
use Rattle.vx_plan.specs.declared.component.Component.{Component}
use Rattle.vx_plan.specs.declared.plan.Plan.{Plan}
use Rattle.vx_plan.specs.Components.{is_transform}
use Rattle.vx_pick.specs.declared.picker.Picker.{Picker}
use Rattle.vx_pick.specs.Picks.{Picks, StandsFor}
use Rattle.vx_record.specs.Records.{Record}
use Rattle.vx_record.specs.Installs.{in_force, component_of}
pub use Rattle.vx_ready.specs.Asking.{is_ported, is_judge, is_served, all_served}
use Rattle.vx_tasks.specs.Observing.{HasCounted}
use Rattle.vx_record.specs.Inputs.{inputs}
use Rattle.vx_record.specs.Places.Place.{Held}
use Rattle.vx_record.specs.Shifts.{at}
use Rattle.vx_keeping.specs.Kept.{Kept, copies_kept}
use Rattle.vx_keeping.specs.Keeping.{Keeps}
use Rattle.vx_hub.specs.Standing.{merges}
use Rattle.vx_hub.specs.declared.parts.Named.{Named}

-- nothing went through a port, it wasn't started, its counts are 0 where they are exact, and it is made for that
pub record IsUntouched (spec : Option PortSpec) (observed : Observation) : Type 0 where
  pub made_for : Fits spec observed.spec
  pub taken : (stream : ℕ) → IfSome (observed.taken stream) (λ bytes. bytes ≡ [])
  pub given : IfSome observed.given (λ bytes. bytes ≡ [])
  pub confirmed : IfSome observed.confirmed (λ positions. positions ≡ [])
  pub ended : observed.ended ≡ []
  pub closed : observed.started ≡ false
  pub starts : HasCounted observed.exact 0 observed.starts
  pub faults : HasCounted observed.exact 0 observed.faults
  pub refusals : HasCounted observed.exact 0 observed.refusals
  pub idles : HasCounted observed.exact 0 observed.idles
  pub finishes : HasCounted observed.exact 0 observed.finishes
  pub confirms : HasCounted observed.exact 0 observed.confirms

-- nothing went through the ports, and each is made for what the component in its place needs
abbrev pub AreUntouched : {P : Type 0} → (P → Observation) → (Component → Option PortSpec) → List Component → List (Named P) → Type 0
AreUntouched observe needs components [] = Unit {0}
AreUntouched observe needs [] (named ∷ rest) = ⊥
AreUntouched observe needs (component ∷ components) (named ∷ rest) =
    IsUntouched (needs component) (observe named.port) × AreUntouched observe needs components rest

-- a transform that judges has what picks by its settings and saw no event; one that merges, and what is none, has nothing
abbrev pub IsPickerFor : Component → Option Picker → Type 0
IsPickerFor c None = (is_transform c ≡ false) ⊎ (merges c ≡ true)
IsPickerFor c (Some picker) = (is_transform c ≡ true) × (Picks c.settings picker × StandsFor picker [])

-- so has each component in its place
abbrev pub ArePickers : List Component → List (Option Picker) → Type 0
ArePickers [] [] = Unit {0}
ArePickers [] (picker ∷ rest) = ⊥
ArePickers (component ∷ components) [] = ⊥
ArePickers (component ∷ components) (picker ∷ rest) = IsPickerFor component picker × ArePickers components rest

-- each component of the plan in force works with a port, judges event by event, merges, makes its lines itself or writes nothing
abbrev pub AreServed : Record → Type 0
AreServed h = IfSome (in_force h) (λ (plan : Plan). all_served plan.components ≡ true)

-- what an instance keeps as it begins, if its component merges: it can answer, discarded nothing, and has nothing, as in each record in
-- which the instance runs that component, was given nothing and holds nothing
pub record IsKeeperFor (c : Component) (k : Kept) : Type 0 where
  pub merging : merges c ≡ true
  pub fit : k.fit ≡ true
  pub cleared : k.discarded ≡ []
  pub keeps : (h : Record) (i : ℕ) → component_of h i ≡ Some c → inputs h i ≡ [] → at h (Held i) ≡ [] → Keeps k h i

-- an instance that merges has that, and no other
abbrev pub IsSlotFor : Component → Option Kept → Type 0
IsSlotFor c None = merges c ≡ false
IsSlotFor c (Some k) = IsKeeperFor c k

-- so has each component in its place
abbrev pub AreSlots : List Component → List (Option Kept) → Type 0
AreSlots [] [] = Unit {0}
AreSlots [] (slot ∷ rest) = ⊥
AreSlots (component ∷ components) [] = ⊥
AreSlots (component ∷ components) (slot ∷ rest) = IsSlotFor component slot × AreSlots components rest

-- no copy is kept in any of some slots
abbrev pub AreBare : List (Option Kept) → Type 0
AreBare [] = Unit {0}
AreBare (slot ∷ rest) = IfSome slot (λ k. copies_kept k ≡ []) × AreBare rest
