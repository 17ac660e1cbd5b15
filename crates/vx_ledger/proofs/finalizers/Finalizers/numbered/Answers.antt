use Rattle.std.proofs.Common.{arith}
use Rattle.std.proofs.lemmas.Grind.{common_steps}
use Rattle.vx_ledger.proofs.CopyLaws.{numbered_more}
use Rattle.vx_ledger.proofs.finalizers.Finalizers.numbered.Goals as goal

pub loop-i-preserved : goal.loop-i-preserved
loop-i-preserved c =
    let more = numbered_more c.loop-i.i c.args.first c.args.first c.args.first in
    grind (arith, common_steps, more, c.push_reserved.ensures.items, c.push_reserved.ensures.len, c.make.ensures)
