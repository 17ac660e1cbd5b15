use Rattle.std.proofs.Common.{◌∙◌, sym, ap, length, arith}
use Rattle.vx_plan.specs.declared.plan.Plan.{Plan}
use Rattle.vx_hub.specs.Kinds.{kind_test}
use Rattle.vx_hub.proofs.Listing.{those_skip, those_more, those_all, component_at}
use Rattle.vx_hub.proofs.making.numbers_of.Goals as goal
use Rattle.vx_hub.proofs.making.numbers_of.Goals.{then-is_of+in-Ok, else-is_of}

pub loop-i-preserved : goal.loop-i-preserved
loop-i-preserved c =
    let components = c.args.plan.now.components in
    let test = kind_test c.args.kind in
    let same = c.as_slice-components.ensures ∙ ap (λ (p : Plan). p.components) c.plan.view_is in
    let there = component_at components c.as_slice-components.result.now c.loop-i.i c.index-components-i.result same c.loop-i-test.true c.index-components-i.is in
    elim c.if-is_of.branch [
      | then-is_of+in-Ok w ↦ rw w.those-is (those_more test components c.loop-i.i c.index-components-i.result there c.loop-i.those.items c.loop-i.invariant w.push.new.self.items w.in-Ok.ensures.items
          (sym c.is_of.ensures ∙ w.if-is_of.true) (let l = c.loop-i-test.true in let count = ap length same in omega (arith, l, count)))
      | else-is_of w ↦ rw w.those-is (those_skip test components c.loop-i.i c.index-components-i.result there c.loop-i.those.items c.loop-i.invariant (sym c.is_of.ensures ∙ w.if-is_of.false))
    ]

pub returns : goal.returns
returns c =
    let same = c.as_slice-components.ensures ∙ ap (λ (p : Plan). p.components) c.plan.view_is in
    let past = c.loop-i-test.false in
    let count = ap length same in
    those_all (kind_test c.args.kind) c.args.plan.now.components c.loop-i.i c.loop-i.those.items (omega (arith, past, count)) c.loop-i.invariant
