use Rattle.std.proofs.Common.{◌≡◌, get_or, sym, ◌∙◌, arith}
use Rattle.std.proofs.lemmas.Bool.Decides.{nat_tests}
use Rattle.vx_frame.proofs.Cuts.{step_at, end_at}
use Rattle.vx_frame.proofs.advance.Advance.of.Goals as goal

pub loop-i-preserved : goal.loop-i-preserved
loop-i-preserved c =
    let here : get_or c.loop-i.rest.now c.in-Some.i 0 ≡ 10 = grind (arith, nat_tests, c.in-Some.ensures.1) in
    rw c.behind-rest.ensures (step_at c.args.limit c.args.stream c.args.overlong c.args.left c.args.bytes.now c.loop-i.advance.lines c.loop-i.advance.overlong c.loop-i.advance.left c.loop-i.rest.now c.in-Some.i
    c.end_line.new.self.lines c.end_line.new.self.overlong c.end_line.new.self.left c.in-Some.ensures.0.high here
    (λ k l e. c.in-Some.ensures.0.before k (omega arith) l (grind (arith, nat_tests, e))) c.in_ok-end_line.ensures.lines c.in_ok-end_line.ensures.overlong c.in_ok-end_line.ensures.seen c.in_ok-end_line.ensures.held c.loop-i.invariant)

pub returns-clause-lines : goal.returns-clause-lines
returns-clause-lines c =
    (end_at c.args.limit c.args.stream c.args.overlong c.args.left c.args.bytes.now c.loop-i.advance.lines c.loop-i.advance.overlong c.loop-i.advance.left c.loop-i.rest.now
    (λ k l e. c.in_default.ensures k (omega arith) l (grind (arith, nat_tests, e))) c.loop-i.invariant).0

pub returns-clause-overlong : goal.returns-clause-overlong
returns-clause-overlong c =
    (end_at c.args.limit c.args.stream c.args.overlong c.args.left c.args.bytes.now c.loop-i.advance.lines c.loop-i.advance.overlong c.loop-i.advance.left c.loop-i.rest.now
    (λ k l e. c.in_default.ensures k (omega arith) l (grind (arith, nat_tests, e))) c.loop-i.invariant).1

pub returns-clause-left : goal.returns-clause-left
returns-clause-left c =
    (λ j. record { seen = c.saturating_add-advance.ensures j; held = c.in_ok-extend.ensures.ok j }) ∙ sym ((end_at c.args.limit c.args.stream c.args.overlong c.args.left c.args.bytes.now c.loop-i.advance.lines c.loop-i.advance.overlong c.loop-i.advance.left c.loop-i.rest.now
    (λ k l e. c.in_default.ensures k (omega arith) l (grind (arith, nat_tests, e))) c.loop-i.invariant).2)
