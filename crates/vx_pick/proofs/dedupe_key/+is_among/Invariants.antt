use Rattle.std.proofs.Common.{length}
use Rattle.vx_pick.proofs.dedupe_key.+is_among.Given as goal

abbrev pub decreases-is_among : goal.decreases-is_among
decreases-is_among l = length l.names.now
