use Rattle.std.proofs.Common.{map}
use Rattle.vx_value.specs.Values.{named_datum}
use Rattle.vx_value.specs.Places.{IsBefore}
use Rattle.vx_value.proofs.field_list.FieldList.place.Given as goal

abbrev pub invariant-loop-i : goal.invariant-loop-i
invariant-loop-i l = IsBefore (map named_datum l.self-inside.fields.items) l.name l.i
