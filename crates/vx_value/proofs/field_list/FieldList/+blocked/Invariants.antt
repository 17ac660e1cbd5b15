use Rattle.std.proofs.Common.{length}
use Rattle.vx_value.proofs.field_list.FieldList.+blocked.Given as goal

abbrev pub decreases-blocked : goal.decreases-blocked
decreases-blocked l = length l.names.now
