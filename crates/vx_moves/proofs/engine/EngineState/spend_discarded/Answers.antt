use Rattle.std.proofs.Common.{refl}
use Rattle.vx_moves.proofs.Discarding.{all_discarded, all_spent, discards_more, discards_none}
use Rattle.vx_moves.proofs.engine.EngineState.spend_discarded.Goals as goal

pub loop-init : goal.loop-init
loop-init g c = discards_none c.args.self.now.keepers c.args.i refl c.requires.stands c.requires.joins

pub loop-preserved : goal.loop-preserved
loop-preserved g c = discards_more c.args.i c.loop.invariant c.spend_next_discarded.ensures.spent

pub returns-clause-stands : goal.returns-clause-stands
returns-clause-stands g c = all_discarded c.args.i c.spend_next_discarded.ensures.spent.stands (c.spend_next_discarded.ensures.none c.loop-test.false)

pub returns-clause-only : goal.returns-clause-only
returns-clause-only g c = (discards_more c.args.i c.loop.invariant c.spend_next_discarded.ensures.spent).only

pub returns-clause-spent : goal.returns-clause-spent
returns-clause-spent g c = all_spent c.args.i c.spend_next_discarded.ensures.spent.stands (c.spend_next_discarded.ensures.none c.loop-test.false)

pub returns-clause-fit : goal.returns-clause-fit
returns-clause-fit g c = (discards_more c.args.i c.loop.invariant c.spend_next_discarded.ensures.spent).fit

pub returns-clause-leaves : goal.returns-clause-leaves
returns-clause-leaves g c = (discards_more c.args.i c.loop.invariant c.spend_next_discarded.ensures.spent).leaves

pub returns-clause-size : goal.returns-clause-size
returns-clause-size g c = (discards_more c.args.i c.loop.invariant c.spend_next_discarded.ensures.spent).size
