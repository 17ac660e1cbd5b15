-- Of which instances a hub keeps the numbers.
use Rattle.std.specs.Prelude.{Bool}
use Rattle.vx_plan.specs.declared.component.Component.{Component}
use Rattle.vx_plan.specs.Components.{is_source}
use Rattle.vx_hub.specs.declared.making.Kind.{Kind}
use Rattle.vx_hub.specs.declared.making.Kind.TheVariants.{Source, Merger}
use Rattle.vx_hub.specs.Standing.{merges}

-- the test of a kind
abbrev pub kind_test : Kind → Component → Bool
kind_test Source = is_source
kind_test Merger = merges
