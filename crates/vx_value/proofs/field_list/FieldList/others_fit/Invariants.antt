use Rattle.std.proofs.Common.{◌≤◌, map, take}
use Rattle.vx_value.specs.Events.{others_depth}
use Rattle.vx_value.specs.Values.{named_datum}
use Rattle.vx_value.proofs.field_list.FieldList.others_fit.Given as goal

abbrev pub invariant-loop-field : goal.invariant-loop-field
invariant-loop-field l = others_depth (map named_datum (take l.field-index l.field-items)) l.name ≤ l.levels
