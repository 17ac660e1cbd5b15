use Rattle.std.proofs.Common.{arith, refl, ap, length}
use Rattle.vx_places.proofs.Written.{read, is_there}
use Rattle.vx_places.proofs.Looking.{some_for, none_for_it, none_more}
use Rattle.vx_places.proofs.looks.any_for.Goals as goal

pub returns-then-index-target : goal.returns-then-index-target
returns-then-index-target c =
    let ok = c.args.waiting.now.ok.0 in
    let here = read c.args.waiting.now.items c.loop-k.k c.index.result.now (omega (arith, ok, c.loop-k-test.true)) c.index.ensures in
    (λ is. some_for c.args.target c.loop-k.k c.args.waiting.now.items (rw here c.if-index-target.true), λ some. refl)

pub loop-k-preserved : goal.loop-k-preserved
loop-k-preserved c =
    let ok = c.args.waiting.now.ok.0 in
    none_more c.args.target c.loop-k.k c.args.waiting.now.items c.index.result.now (omega (arith, ok, c.loop-k-test.true)) c.index.ensures c.if-index-target.false c.loop-k.invariant

pub returns : goal.returns
returns c =
    let ok = c.args.waiting.now.ok.0 in
    let none = ap length (none_for_it c.args.target c.args.waiting.now.items (λ k is.
    let l = is_there _ c.args.waiting.now.items k is in c.loop-k.invariant k (omega (arith, ok, l, c.loop-k-test.false)) is)) in
    (λ is. absurd cc, λ some. absurd (omega (arith, none, some)))
