use Rattle.std.proofs.Common.{arith}
use Rattle.std.proofs.lemmas.Grind.{common_steps}
use Rattle.vx_ledger.proofs.CopyLaws.{renumbered_alone, renumbered_copied}
use Rattle.vx_ledger.proofs.finalizers.Finalizers.renumbered.Goals as goal

pub returns-then-count-eq1 : goal.returns-then-count-eq1
returns-then-count-eq1 c =
    let alone = renumbered_alone c.args.first c.args.self.now c.at-single.result.now (omega arith) c.at-single.ensures in
    grind (arith, alone, c.of.ensures, c.make-again.ensures)

pub loop-i-preserved : goal.loop-i-preserved
loop-i-preserved c =
    let more = renumbered_copied c.args.first c.loop-i.i c.args.self.now c.at-copy.result.now (omega arith) c.at-copy.ensures in
    grind (arith, common_steps, more, c.push_reserved.ensures.items, c.push_reserved.ensures.len, c.make.ensures)
