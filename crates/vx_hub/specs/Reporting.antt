-- What is told of a run.
use Rattle.std.specs.Prelude.{◌≡◌, ℕ, IsSomeAnd}
use Rattle.vx_value.specs.Texts.{ByteString}
use Rattle.vx_plan.specs.declared.class.Class.{Class}
use Rattle.vx_plan.specs.declared.component.Component.{Component}
use Rattle.vx_record.specs.Records.{Record}
use Rattle.vx_record.specs.Copies.{IsLive}
use Rattle.vx_record.specs.Installs.{component_of}

-- an instance runs a component of that name
abbrev pub IsNameOf : Record → ℕ → ByteString → Type 0
IsNameOf h i name = IsSomeAnd (component_of h i) (λ (c : Component). name ≡ c.name)

-- of that class
abbrev pub IsClassOf : Record → ℕ → Class → Type 0
IsClassOf h i class = IsSomeAnd (component_of h i) (λ (c : Component). class ≡ c.class)

-- a copy is live
abbrev pub HasLive : Record → Type 0
HasLive h = (c : ℕ) × IsLive h c
