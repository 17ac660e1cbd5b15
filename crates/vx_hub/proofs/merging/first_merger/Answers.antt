use Rattle.std.proofs.Common.{arith}
use Rattle.vx_hub.specs.Merges.{NoneMergesAt}
use Rattle.vx_hub.proofs.Mergers.{merger_among}
use Rattle.vx_hub.proofs.Unready.{found_more, found_all, number_there}
use Rattle.vx_hub.proofs.merging.first_merger.Goals as goal

pub can_merge-requires-clause-within : goal.can_merge-requires-clause-within
can_merge-requires-clause-within g c = (merger_among c.requires.stands c.args.mergers.now c.requires.mergers c.loop-k.k _
    (number_there c.args.mergers.now c.loop-k.k c.loop-k-test.true)).0

pub can_merge-requires-clause-joins : goal.can_merge-requires-clause-joins
can_merge-requires-clause-joins g c = (merger_among c.requires.stands c.args.mergers.now c.requires.mergers c.loop-k.k _
    (number_there c.args.mergers.now c.loop-k.k c.loop-k-test.true)).1

pub loop-k-preserved : goal.loop-k-preserved
loop-k-preserved g c = found_more (NoneMergesAt c.args.engine.now c.args.now) c.args.mergers.now c.loop-k.k c.loop-k-test.true
    (record { unready = c.can_merge.ensures.unready c.if-can_merge.false; early = c.can_merge.ensures.early c.if-can_merge.false }) c.loop-k.invariant

pub returns-clause-none : goal.returns-clause-none
returns-clause-none g c = found_all (NoneMergesAt c.args.engine.now c.args.now) c.args.mergers.now c.loop-k.k (omega arith) c.loop-k.invariant

pub returns-then-can_merge-clause-joins : goal.returns-then-can_merge-clause-joins
returns-then-can_merge-clause-joins g c = (merger_among c.requires.stands c.args.mergers.now c.requires.mergers c.loop-k.k _
    (number_there c.args.mergers.now c.loop-k.k c.loop-k-test.true)).1
