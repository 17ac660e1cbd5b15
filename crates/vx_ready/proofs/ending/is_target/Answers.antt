use Rattle.std.proofs.Common.{◌∙◌, sym, arith}
use Rattle.vx_ready.proofs.Naming.{none_further, none_on, one_on}
use Rattle.vx_ready.proofs.ending.is_target.Goals as goal

pub returns-then-is_target_of : goal.returns-then-is_target_of
returns-then-is_target_of c = sym (one_on c.args.i c.loop-port.port c.args.outlet.now (sym c.is_target_of.ensures ∙ c.if-is_target_of.true))

pub loop-port-preserved : goal.loop-port-preserved
loop-port-preserved c = none_further c.args.i c.loop-port.port c.args.outlet.now c.is_target_of.result c.is_target_of.ensures c.if-is_target_of.false c.loop-port.invariant

pub returns : goal.returns
returns c = sym (none_on c.args.i c.loop-port.port c.args.outlet.now (omega (arith, c.requires)) c.loop-port.invariant)
