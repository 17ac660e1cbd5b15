use Rattle.std.proofs.Common.{◌∙◌, ap, arith}
use Rattle.vx_plan.specs.declared.plan.Plan.{Plan}
use Rattle.vx_hub.proofs.Kept.{ended_first, capacities_more}
use Rattle.vx_hub.proofs.Listing.{component_at}
use Rattle.vx_hub.proofs.making.make_places.Goals as goal

pub end-requires : goal.end-requires
end-requires c i there p owned = ended_first c.add_place.new.places (rw c.in-Err.ensures.unchanged c.loop-component.invariant.holds) p

pub loop-component-preserved : goal.loop-component-preserved
loop-component-preserved c =
    let before = c.loop-component.invariant in
    let components = c.args.plan.now.components in
    let same = c.as_slice-component-items.ensures ∙ ap (λ (p : Plan). p.components) c.plan.view_is in
    let there = component_at components c.as_slice-component-items.result.now c.loop-component.component-index c.component-item.result same c.loop-component-test.true c.component-item.is in
    record {
      holds = c.in-Ok.ensures.holds before.holds;
      capacities = capacities_more components c.loop-component.places c.add_place.new.places c.component-item.result c.in-Ok.ensures.adds c.in-Ok.ensures.size (rw before.size there) before.capacities;
      size = omega (arith, before.size, c.in-Ok.ensures.size);
    }
