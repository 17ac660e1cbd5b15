use Rattle.std.proofs.Common.{arith, refl, ◌∙◌}
use Rattle.vx_places.proofs.Written.{if_none, read, has}
use Rattle.vx_places.proofs.Looking.{child_there, oldest_of, oldest_for, none_before, none_more}
use Rattle.vx_places.proofs.looks.oldest_in.Goals as goal

pub returns-in_err-target-clause-none : goal.returns-in_err-target-clause-none
returns-in_err-target-clause-none c = if_none c.from_residual.result (λ t first.
    let l = child_there t c.args.k c.args.waiting.now.items first in
    let ok = c.args.waiting.now.ok.0 in
    let contrary = c.in_err-target.ensures.variant.1 (omega (arith, l, ok)) in absurd (cc contrary))

pub returns-then-index-target-clause-none : goal.returns-then-index-target-clause-none
returns-then-index-target-clause-none c t first =
    let children = c.args.waiting.now.items in
    let l = child_there t c.args.k children first in
    let same = has _ children c.args.k _ l c.in_ok-target.ensures.lookup (oldest_for t c.args.k children first) in
    let here = read children c.loop-j.j _ (omega (arith, l, c.loop-j-test.true)) c.index.ensures in
    none_before t c.args.k c.loop-j.j children first c.loop-j-test.true (rw here (c.if-index-target.true ∙ same))

pub loop-j-preserved : goal.loop-j-preserved
loop-j-preserved c =
    let ok = c.args.waiting.now.ok.0 in
    let l = c.in_ok-target.ensures.variant.0 refl in
    none_more c.in_ok-target.field-0.now.target c.loop-j.j c.args.waiting.now.items c.index.result.now (omega (arith, ok, l)) c.index.ensures c.if-index-target.false c.loop-j.invariant

pub returns-clause-some : goal.returns-clause-some
returns-clause-some c =
    let ok = c.args.waiting.now.ok.0 in
    let l = c.in_ok-target.ensures.variant.0 refl in
    let here = read c.args.waiting.now.items c.args.k _ (omega (arith, ok, l)) c.in_ok-target.ensures.lookup in
    oldest_of c.in_ok-target.field-0.now.target c.args.k c.args.waiting.now.items (rw here refl)
    (λ i below. c.loop-j.invariant i (omega (arith, below, c.loop-j-test.false)))
