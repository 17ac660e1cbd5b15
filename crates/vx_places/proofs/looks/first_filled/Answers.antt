use Rattle.std.proofs.Common.{arith, get_or}
use Rattle.vx_places.proofs.Written.{stage_before}
use Rattle.vx_places.proofs.looks.first_filled.Goals as goal

pub returns-then-has_some : goal.returns-then-has_some
returns-then-has_some c = (c.has_some.ensures.0 c.if-has_some.true, c.loop-s.invariant)

pub returns : goal.returns
returns c s is =
    let ok = (get_or c.args.rows.now c.args.i c.index-rows-i.result).stages.ok.0 in
    c.loop-s.invariant s (stage_before _ c.args.rows.now c.args.i s _ c.index-rows-i.result c.requires is (omega (arith, ok, c.len-s-end.ensures, c.loop-s-test.false))) is
