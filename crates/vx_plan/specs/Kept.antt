-- The lists of readers that a plan keeps.
use Rattle.std.specs.Prelude.{List, map}
use Rattle.vx_value.specs.Texts.{ByteString}
use Rattle.vx_plan.specs.declared.component.Component.{Component}
use Rattle.vx_plan.specs.Components.{port_names}
use Rattle.vx_plan.specs.Targets.{in_order, names_reading}

-- the names of the readers of each port of a component, in byte order
abbrev pub readers_of : List Component → Component → List (List ByteString)
readers_of components owner = map (λ port. in_order (names_reading owner.name port components)) (port_names owner)

-- the same for each component
abbrev pub all_readers : List Component → List (List (List ByteString))
all_readers components = map (readers_of components) components
