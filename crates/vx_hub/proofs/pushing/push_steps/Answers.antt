use Rattle.std.proofs.Common.{◌∙◌, inr, arith}
use Rattle.vx_hub.proofs.Moving.{moved_both, moves_keep, grew_by_now, has_grown}
use Rattle.vx_hub.proofs.pushing.push_steps.Goals as goal

pub returns-in_err-entered-clause-moved : goal.returns-in_err-entered-clause-moved
returns-in_err-entered-clause-moved g c = moved_both c.loop.invariant.moved c.move_one.ensures.moved

pub returns-in-None-clause-moved : goal.returns-in-None-clause-moved
returns-in-None-clause-moved g c = moved_both c.loop.invariant.moved c.move_one.ensures.moved

pub returns-in-None-clause-moves : goal.returns-in-None-clause-moves
returns-in-None-clause-moves g c = grew_by_now c.loop.invariant.begun (rw c.in-None.is at c.in_ok-entered.ensures.none) c.move_one.ensures.moved

pub returns-clause-moves : goal.returns-clause-moves
returns-clause-moves g c can = let all = c.loop-test.false in has_grown c.loop.counter c.args.engine.now c.loop.engine c.loop.invariant.begun (omega (arith, all))

pub loop-preserved : goal.loop-preserved
loop-preserved g c =
    let was = c.loop.invariant in
    let moved = c.move_one.ensures.moved in
    let kept = moves_keep moved in
    let longer = (moves_keep was.moved).longer in
    let few = was.few in
    let one = rw c.in-Some.is at c.in_ok-entered.ensures.one in
    let before = was.entered in
    let entered = rw c.in-Some.is at c.in_ok-entered.ensures.entered in
    let grew = rw c.in-Some.is at c.in_ok-entered.ensures.grew in record {
      moved = moved_both was.moved moved;
      going = kept.going ∙ was.going;
      unleased = kept.out c.args.i ∙ was.unleased;
      entered = omega (arith, before, entered);
      few = omega (arith, few, one);
      begun = inr (omega (arith, longer, grew));
    }
