-- Components by their numbers: their places in a plan.
use Rattle.std.specs.Prelude.{ℕ, ◌+◌, List, [], ◌∷◌, ◌++◌, if◌then◌else◌}
use Rattle.vx_value.specs.Texts.{ByteString, same_text}
use Rattle.vx_plan.specs.declared.component.Component.{Component}
use Rattle.vx_plan.specs.declared.plan.Plan.{Plan}
use Rattle.vx_plan.specs.Targets.{targets}

-- the numbers, from one on, of the components of that name
abbrev pub numbers_named : ℕ → List Component → ByteString → List ℕ
numbers_named from [] name = []
numbers_named from (c ∷ rest) name =
    if same_text c.name name then from ∷ numbers_named (from + 1) rest name else numbers_named (from + 1) rest name

-- the numbers of some names, in their order
abbrev pub numbers_of_names : List Component → List ByteString → List ℕ
numbers_of_names components [] = []
numbers_of_names components (name ∷ rest) = numbers_named 0 components name ++ numbers_of_names components rest

-- the numbers of the readers of a component's port, in byte order of their names
abbrev pub reader_numbers : Plan → ByteString → ℕ → List ℕ
reader_numbers plan name port = numbers_of_names plan.components (targets plan name port)
