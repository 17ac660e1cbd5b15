use Rattle.std.proofs.Common.{◌≡◌, length, ap, arith}
use Rattle.vx_plan.specs.declared.plan.Plan.{Plan}
use Rattle.vx_hub.proofs.making.allocate.Goals as goal

pub returns : goal.returns
returns g c =
    let same : length c.plan.inside.components ≡ length c.args.plan.now.components = ap (λ (plan : Plan). length plan.components) c.plan.view_is in
    record {
      states = c.in_ok-states.ensures.begun;
      states_size = c.in_ok-states.ensures.size;
      roles = c.in_ok-roles.ensures.begun;
      roles_size = c.in_ok-roles.ensures.size;
      balance = c.in_ok-balance.ensures;
      holds = c.in_ok-places.ensures.holds;
      capacities = c.in_ok-places.ensures.capacities;
      places_size = c.in_ok-places.ensures.size;
      port_slots = omega (arith, c.in_ok-ports.ensures.capacity, c.len.ensures, same);
      none = c.in_ok-ports.ensures.items;
      sources = c.in_ok-sources.ensures;
      mergers = c.in_ok-mergers.ensures;
    }
