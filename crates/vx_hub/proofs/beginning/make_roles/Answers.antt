use Rattle.std.proofs.Common.{◌∙◌, ap, arith}
use Rattle.vx_plan.specs.declared.plan.Plan.{Plan}
use Rattle.vx_hub.specs.Beginning.{IsRoleBut}
use Rattle.vx_hub.specs.Making.{all_served}
use Rattle.vx_hub.proofs.Begun.{for_next}
use Rattle.vx_hub.proofs.Served.{served_in}
use Rattle.vx_hub.proofs.beginning.make_roles.Goals as goal

pub make_role-requires : goal.make_role-requires
make_role-requires c =
    let same = c.as_slice-component-items.ensures ∙ ap (λ (p : Plan). p.components) c.plan.view_is in
    served_in c.as_slice-component-items.result.now c.loop-component.component-index c.component-item.result
    (ap all_served same ∙ c.requires) c.loop-component-test.true c.component-item.is

pub loop-component-preserved : goal.loop-component-preserved
loop-component-preserved c =
    let v = c.loop-component.invariant in
    let same = c.as_slice-component-items.ensures ∙ ap (λ (p : Plan). p.components) c.plan.view_is in
    record {
      begun = for_next IsRoleBut c.loop-component.roles.items c.in_ok-role.role same c.push_reserved.ensures.items
          v.begun v.size c.loop-component-test.true c.component-item.is c.in_ok-role.ensures;
      size = omega (arith, v.size, c.push_reserved.ensures.len);
      room = omega (arith, v.room, c.push_reserved.ensures.capacity);
    }
