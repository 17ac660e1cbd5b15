use Rattle.std.proofs.Common.{length}
use Rattle.vx_value.proofs.field_list.FieldList.+put.Given as goal

abbrev pub decreases-put : goal.decreases-put
decreases-put l = length l.names.now
