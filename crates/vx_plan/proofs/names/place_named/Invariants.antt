use Rattle.std.proofs.Common.{◌≡◌, ◌+◌, drop}
use Rattle.std.specs.List.{position_or_len}
use Rattle.vx_value.specs.Texts.{same_text}
use Rattle.vx_plan.specs.declared.component.Component.{Component}
use Rattle.vx_plan.proofs.names.place_named.Given as goal

abbrev pub invariant-loop-i : goal.invariant-loop-i
invariant-loop-i l =
    position_or_len (λ (c : Component). same_text c.name l.name) l.components
    ≡ l.i + position_or_len (λ (c : Component). same_text c.name l.name) (drop l.i l.components)
