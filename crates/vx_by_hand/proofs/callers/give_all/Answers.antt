use Rattle.std.proofs.Common.{arith, ◌∙◌}
use Rattle.vx_by_hand.proofs.Growing.{same_on}
use Rattle.vx_tasks.proofs.Observing.{grows_on, take_on}
use Rattle.vx_by_hand.proofs.callers.give_all.Goals as goal

pub loop-at-preserved : goal.loop-at-preserved
loop-at-preserved g c = record {
  given = grows_on _ _ _ _ _ _ c.loop-at.invariant.given c.in-Ok.ensures.given (take_on _ _ _);
  rest = same_on (g.P.Port.observed c.args.port.now) (g.P.Port.observed c.loop-at.port) (g.P.Port.observed c.give.new.self) c.loop-at.invariant.rest c.give.ensures.rest;
  within = omega (arith, c.in-Ok.ensures.within);
  faults = omega (arith, c.give.ensures.cause.later);
  refusals = omega (arith, c.give.ensures.refusal.later);
  started = c.give.ensures.started ∙ c.loop-at.invariant.started;
  idles = omega arith;
}

pub give-requires-clause-started : goal.give-requires-clause-started
give-requires-clause-started g c = c.loop-at.invariant.started ∙ c.requires
