use Rattle.std.proofs.Common.{sym}
use Rattle.vx_reading.proofs.Lists.{not_single}
use Rattle.vx_reading.proofs.judging.is_single.Goals as goal

pub returns-in-empty-2 : goal.returns-in-empty-2
returns-in-empty-2 c = sym (not_single c.args.items.now c.in-empty.len_at_least)
