use Rattle.std.proofs.Common.{◌∙◌, ap, arith}
use Rattle.vx_plan.specs.declared.plan.Plan.{Plan}
use Rattle.vx_hub.specs.Beginning.{IsBegun}
use Rattle.vx_hub.proofs.Begun.{for_next}
use Rattle.vx_hub.proofs.beginning.make_states.Goals as goal

pub loop-component-preserved : goal.loop-component-preserved
loop-component-preserved g c =
    let v = c.loop-component.invariant in
    let same = c.as_slice-component-items.ensures ∙ ap (λ (p : Plan). p.components) c.plan.view_is in
    record {
      begun = for_next (IsBegun c.args.plan.now) c.loop-component.states.items c.in_ok-state.state same
          c.push_reserved.ensures.items v.begun v.size c.loop-component-test.true c.component-item.is c.in_ok-state.ensures;
      size = omega (arith, v.size, c.push_reserved.ensures.len);
      room = omega (arith, v.room, c.push_reserved.ensures.capacity);
    }
