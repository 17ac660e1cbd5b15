use Rattle.std.proofs.Common.{arith, ◌∙◌}
use Rattle.vx_tasks.proofs.Observing.{grows_on, take_on, gives_on}
use Rattle.vx_ends.specs.Observation.{nothing}
use Rattle.vx_tasks.proofs.Tallying.{behind_nothing}
use Rattle.vx_tasks.proofs.sending.give_all.Goals as goal

pub loop-at-preserved : goal.loop-at-preserved
loop-at-preserved g c = record {
  within = omega (arith, c.in-Ok.ensures.within);
  given = grows_on _ _ _ _ _ _ c.loop-at.invariant.given c.in-Ok.ensures.given (take_on _ _ _);
  others = gives_on (g.P.Port.observed c.args.port.now) (g.P.Port.observed c.loop-at.port) (g.P.Port.observed c.give.new.self) c.loop-at.invariant.others (record {
    taken = c.give.ensures.rest.taken;
    left = c.give.ensures.rest.left;
    confirmed = c.give.ensures.rest.confirmed;
    spec = c.give.ensures.rest.spec;
    ended = c.give.ensures.rest.ended;
    faults = c.give.ensures.cause.later;
    refusals = c.give.ensures.refusal.later;
    idles = c.give.ensures.idles;
  });
  counts = behind_nothing nothing _ _ _ c.loop-at.invariant.counts c.in-Ok.ensures.counts;
  started = c.give.ensures.started ∙ c.loop-at.invariant.started;
}

pub give-requires-clause-started : goal.give-requires-clause-started
give-requires-clause-started g c = c.loop-at.invariant.started ∙ c.requires
