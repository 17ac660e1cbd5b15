use Rattle.std.proofs.Common.{length}
use Rattle.vx_value.proofs.field_list.FieldList.+at.Given as goal

abbrev pub decreases-at : goal.decreases-at
decreases-at l = length l.names.now
