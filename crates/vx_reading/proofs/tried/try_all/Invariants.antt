use Rattle.std.proofs.Common.{List, [], map, drop}
use Rattle.vx_value.specs.Texts.{ByteString}
use Rattle.vx_reading.specs.Conditions.{conditions_by, all_conditions}
use Rattle.vx_reading.specs.Trying.{Tries}
use Rattle.vx_reading.proofs.tried.try_all.Given as goal

-- whatever comes of those that are left, comes of all
abbrev pub invariant-loop-component : goal.invariant-loop-component
invariant-loop-component l =
    (refused : List ByteString) (conditions : List (List ByteString)) →
    Tries (all_conditions (drop l.component-index l.component-items)) (map conditions_by (drop l.component-index l.component-items)) l.refused refused l.conditions conditions →
    Tries (all_conditions l.component-items) (map conditions_by l.component-items) [] refused [] conditions
