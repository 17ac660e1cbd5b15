use Rattle.vx_landing.proofs.Merged.{none_taken, some_more, some_none, some_taken}
use Rattle.vx_landing.proofs.merging.take_inputs.Goals as goal

pub loop-taken-init : goal.loop-taken-init
loop-taken-init g c = some_none c.requires.stands c.requires.taking c.requires.fresh

pub loop-taken-preserved : goal.loop-taken-preserved
loop-taken-preserved g c = some_more c.loop-taken.invariant (c.take_input.ensures.took c.if-not-take_input.false)

pub returns-then-not-take_input-clause-some : goal.returns-then-not-take_input-clause-some
returns-then-not-take_input-clause-some g c more =
    let same = c.take_input.ensures.none c.if-not-take_input.true in rw same (c.loop-taken.invariant.some (some_taken c.loop-taken.taken more))

pub returns-then-not-take_input-clause-none : goal.returns-then-not-take_input-clause-none
returns-then-not-take_input-clause-none g c less =
    let same = c.take_input.ensures.none c.if-not-take_input.true in rw same (c.loop-taken.invariant.none (none_taken c.loop-taken.taken less))
