-- The transforms that a program hands in, each for a component of its name.
use Rattle.std.specs.Prelude.{◌≡◌, ◌⊎◌, ℕ, ◌<◌, Bool, true, false, ◌&&◌, ◌||◌, not, cond, Option, Some, None, List, [], length, get_or, IfSome}
use Rattle.std.specs.List.{list_all, list_any}
use Rattle.vx_value.specs.Texts.{ByteString, same_text, text_lt}
use Rattle.vx_plan.specs.declared.component.Component.{Component}
use Rattle.vx_plan.specs.declared.plan.Plan.{Plan}
use Rattle.vx_plan.specs.Accepted.{names_differ}
use Rattle.vx_reading.specs.Made.{is_hosted}
use Rattle.vx_keeping.specs.Assigning.{assigned}
use Rattle.vx_record.specs.Records.{Record}
use Rattle.vx_record.specs.Installs.{in_force}
use Rattle.vx_cli.specs.declared.fault.Fault.{Fault}
use Rattle.vx_cli.specs.declared.fault.Fault.TheVariants.{UnknownHost, WantOfMemory}

-- whether a component runs one, and its name is none of these
abbrev pub is_unknown : List ByteString → Component → Bool
is_unknown names c = is_hosted c.settings && not (list_any (same_text c.name) names)

-- a name is that of a component of which that is so, and none of another comes before it by its bytes
pub record IsLeastUnknown (names : List ByteString) (components : List Component) (name : ByteString) : Type 0 where
  pub there : list_any (λ (c : Component). is_unknown names c && same_text c.name name) components ≡ true
  pub least : list_all (λ (c : Component). not (is_unknown names c) || not (text_lt c.name name)) components ≡ true

-- there is no such component
abbrev pub AllKnown : List ByteString → List Component → Type 0
AllKnown names components = list_all (λ (c : Component). not (is_unknown names c)) components ≡ true

-- the plan in force has none
abbrev pub AreHosted : List ByteString → Record → Type 0
AreHosted names h = IfSome (in_force h) (λ (plan : Plan). AllKnown names plan.components)

-- of two texts the lesser by their bytes; the first, where they are the same
abbrev pub IsLesser : ByteString → ByteString → ByteString → Type 0
IsLesser a b c = ((text_lt b a ≡ false) × (c ≡ a)) ⊎ ((text_lt b a ≡ true) × (c ≡ b))

-- what it says where there is such a component
abbrev pub LacksHost : List ByteString → List Component → Fault → Type 0
LacksHost names components (UnknownHost name) = IsLeastUnknown names components name
LacksHost names components WantOfMemory = Unit {0}
LacksHost names components other = ⊥

-- which instances run those of some names once one of a component has what it is to run
abbrev pub now_run : List ByteString → List (Option ℕ) → ℕ → Component → List (Option ℕ)
now_run names runs i c = cond (is_hosted c.settings) (assigned c.name i names runs) runs

-- of those of some names, in order, which some instances run: each instance of the first so many components runs the one of its name
-- if it is to, where one of that name is there and no two components have one name; and no instance runs any other
pub record RunEach (names : List ByteString) (runs : List (Option ℕ)) (components : List Component) (n : ℕ) : Type 0 where
  pub count : length runs ≡ length names
  pub own : (place i : ℕ) (d : Component) → get_or runs place None ≡ Some i →
      (i < n) × (is_hosted (get_or components i d).settings ≡ true) × (same_text (get_or components i d).name (get_or names place []) ≡ true)
  pub each : names_differ components ≡ true → (i : ℕ) (d : Component) → i < n → is_hosted (get_or components i d).settings ≡ true →
      list_any (same_text (get_or components i d).name) names ≡ true → (place : ℕ) × (place < length names) × (get_or runs place None ≡ Some i)
