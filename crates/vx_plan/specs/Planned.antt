-- What contracts see of a plan.
use Rattle.std.specs.Prelude.{List}
use Rattle.vx_plan.specs.declared.component.Component.{Component}
use Rattle.vx_plan.specs.declared.global.Global.{Global}

-- the global options of a configuration, and its components
pub record Planned : Type 0 where
  pub global : Global
  pub components : List Component
