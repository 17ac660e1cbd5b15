use Rattle.std.proofs.Common.{◌≤◌, length, arith}
use Rattle.vx_reading.proofs.Few.{few_components}
use Rattle.vx_reading.proofs.Ported.{made_read}
use Rattle.vx_run.proofs.preparing.plan_of.Goals as goal

pub returns-in-Ok-clause-few : goal.returns-in-Ok-clause-few
returns-in-Ok-clause-few c =
    let few : length c.in-Ok.read.plan.components ≤ 256 = few_components c.args.environment.now c.as_slice.result.now c.in-Ok.read.plan c.in-Ok.ensures.read in
    omega (arith, few)

pub returns-in-Ok-clause-made : goal.returns-in-Ok-clause-made
returns-in-Ok-clause-made c = made_read c.args.environment.now c.as_slice.result.now c.in-Ok.read.plan c.in-Ok.ensures.read
