use Rattle.std.proofs.Common.{Some, None, arith}
use Rattle.vx_hub.proofs.Waiting.{none_before, one_more_rests}
use Rattle.vx_hub.proofs.hub.Hub.pending.Goals as goal

pub returns-then-is_pending-clause-least : goal.returns-then-is_pending-clause-least
returns-then-is_pending-clause-least g c =
    let inside = c.in-Some.ensures.some.1 in
    none_before c.args.self.now.engine c.loop-i.from (Some c.in-Some.i) (c.loop-i.invariant.none (c.is_pending.ensures.going c.if-is_pending.true)) c.in-Some.ensures.sent
    c.in-Some.i (omega (arith, inside)) (λ j l. l)

pub loop-i-preserved : goal.loop-i-preserved
loop-i-preserved g c =
    let inside = c.in-Some.ensures.some.1 in
    record {
      within = omega (arith, inside);
      none = λ going. one_more_rests c.args.self.now.engine c.in-Some.i
          (none_before c.args.self.now.engine c.loop-i.from (Some c.in-Some.i) (c.loop-i.invariant.none going) c.in-Some.ensures.sent c.in-Some.i (omega (arith, inside)) (λ j l. l))
          (c.is_pending.ensures.none c.if-is_pending.false going);
    }

pub returns-clause-none : goal.returns-clause-none
returns-clause-none g c sound going =
    let size = c.requires.hub.stands.size in
    none_before c.args.self.now.engine c.loop-i.from None (c.loop-i.invariant.none going) c.in_default.ensures.sent _ (omega (arith, size)) (λ j l. tt)
