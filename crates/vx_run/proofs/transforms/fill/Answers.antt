use Rattle.std.proofs.Common.{refl, ap, ◌∙◌, arith}
use Rattle.vx_plan.specs.declared.plan.Plan.{Plan}
use Rattle.vx_run.proofs.Prepared.{component_got}
use Rattle.vx_run.proofs.Picking.{next_list, picker_more, slot_more, bare_more}
use Rattle.vx_run.proofs.transforms.fill.Goals as goal

pub loop-component-preserved : goal.loop-component-preserved
loop-component-preserved c =
    let inv = c.loop-component.invariant in
    let components = c.args.plan.now.components in
    let i = c.loop-component.component-index in
    let component = c.component-item.result in
    let same = c.as_slice-component-items.ensures ∙ ap (λ (p : Plan). p.components) c.plan.view_is in
    let there = component_got components c.as_slice-component-items.result.now i i component same refl c.loop-component-test.true c.component-item.is in
    let next = next_list components i component c.loop-component.conditions.items c.pop.new.self.items c.in-Some.list there inv.left c.in-Some.ensures.items in
    let made = c.in-Ok.ensures in
    record {
      left = next.1;
      picked = picker_more components i component c.loop-component.pickers.items c.push_reserved.new.self.items c.in-Ok.field-0.picker c.push_reserved.ensures.items there inv.picked made.picker;
      kept = slot_more components i component c.loop-component.keepers.items c.push_reserved-in-Ok.new.self.items c.in-Ok.field-0.keeper c.push_reserved-in-Ok.ensures.items there inv.kept made.keeper;
      bare = bare_more c.loop-component.keepers.items c.push_reserved-in-Ok.new.self.items c.in-Ok.field-0.keeper c.push_reserved-in-Ok.ensures.items inv.bare made.bare;
      pickers = omega (arith, inv.pickers, c.push_reserved.ensures.len);
      keepers = omega (arith, inv.keepers, c.push_reserved-in-Ok.ensures.len);
      room = omega (arith, inv.room, c.push_reserved.ensures.capacity);
      slots = omega (arith, inv.slots, c.push_reserved-in-Ok.ensures.capacity);
    }
