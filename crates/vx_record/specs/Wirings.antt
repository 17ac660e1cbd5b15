-- What the first Install makes of a plan: the number of an instance is the place of its component.
use Rattle.std.specs.Prelude.{ℕ, ◌≡◌, Bool, true, Some, [], ◌∷◌, ◌++◌, length, slice_get}
use Rattle.vx_plan.specs.Accepted.{names_differ}
use Rattle.vx_plan.specs.declared.component.Component.{Component}
use Rattle.vx_plan.specs.declared.plan.Plan.{Plan}
use Rattle.vx_plan.specs.Numbers.{reader_numbers}
use Rattle.vx_record.specs.declared.entry.Entry.TheVariants.{Install}
use Rattle.vx_record.specs.Records.{Record}
use Rattle.vx_record.specs.Copies.{counting}
use Rattle.vx_record.specs.Installs.{wiring, wired, component_of, started}
use Rattle.vx_record.specs.Routing.{wired_targets}
use Rattle.vx_record.specs.Starting.{first_instances}
use Rattle.vx_record.specs.Legal.{IsLegal}

-- a record that began with a plan
abbrev pub begun : Plan → Bool → ℕ → Record
begun plan once now = Install 0 plan once (first_instances 0 plan.components) now ∷ []

-- no later entry of a legal record changes how an instance is wired: there is one Install
abbrev pub WiringStays : Type 0
WiringStays =
    (later : Record) (plan : Plan) (once : Bool) (now i : ℕ) → IsLegal (later ++ begun plan once now) →
    wiring (later ++ begun plan once now) i ≡ wiring (begun plan once now) i

-- nor which instances there are: one for each component
abbrev pub StartedStays : Type 0
StartedStays =
    (later : Record) (plan : Plan) (once : Bool) (now : ℕ) → IsLegal (later ++ begun plan once now) →
    started (later ++ begun plan once now) ≡ counting 0 (length plan.components)

-- where names differ, the k-th instance runs the k-th component
abbrev pub ComponentOfFirst : Type 0
ComponentOfFirst =
    (plan : Plan) (once : Bool) (now k : ℕ) (c : Component) → names_differ plan.components ≡ true →
    slice_get plan.components k ≡ Some c → component_of (begun plan once now) k ≡ Some c

-- and its targets are the numbers of the readers of that component
abbrev pub TargetsOfFirst : Type 0
TargetsOfFirst =
    (plan : Plan) (once : Bool) (now k port : ℕ) (c : Component) → slice_get plan.components k ≡ Some c →
    wired [] (wired_targets port) (begun plan once now) k ≡ reader_numbers plan c.name port
