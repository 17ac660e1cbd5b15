use Rattle.std.proofs.Common.{Some, None, arith}
use Rattle.vx_hub.specs.Leases.{class_test}
use Rattle.vx_hub.proofs.Unready.{filled_further, filled_all}
use Rattle.vx_hub.proofs.ready.filled_of.Goals as goal

pub loop-i-preserved : goal.loop-i-preserved
loop-i-preserved g c =
    let inside = c.in-Some.ensures.some.1 in
    record {
      within = omega (arith, inside);
      asked = filled_further (class_test c.args.class) c.args.engine.now c.args.now c.loop-i.from (Some c.in-Some.i) c.loop-i.invariant.asked c.in-Some.ensures.unfilled c.in-Some.i (omega (arith, inside)) (λ j l. l)
          c.in_default-ready_of.ensures.none;
    }

pub returns-clause-none : goal.returns-clause-none
returns-clause-none g c =
    let size = c.requires.stands.size in
    filled_all (class_test c.args.class) c.args.engine.now c.args.now c.loop-i.from None c.loop-i.invariant.asked c.in_default.ensures.unfilled _ (omega (arith, size)) (λ j l. tt)
