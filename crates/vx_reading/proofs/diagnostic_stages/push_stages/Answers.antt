use Rattle.std.proofs.Common.{arith}
use Rattle.std.proofs.lemmas.Grind.{common_steps}
use Rattle.vx_reading.proofs.Lists.{is_last}
use Rattle.vx_reading.proofs.diagnostic_stages.push_stages.Goals as goal

pub loop-i-preserved : goal.loop-i-preserved
loop-i-preserved c =
    let last = is_last c.args.stages.now c.loop-i.i c.loop-i-test.true in
    grind (arith, common_steps, last)
