use Rattle.std.proofs.Common.{length, ◌+◌}
use Rattle.vx_value.proofs.field_list.FieldList.+fits_with.Given as goal

abbrev pub decreases-fits_with : goal.decreases-fits_with
decreases-fits_with l = length l.names.now + length l.names.now

abbrev pub decreases-under_fits : goal.decreases-under_fits
decreases-under_fits l = length l.rest.now + length l.rest.now + 1
