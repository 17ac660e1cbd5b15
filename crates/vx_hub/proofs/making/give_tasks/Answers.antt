use Rattle.std.proofs.Common.{◌≡◌, ◌∙◌, ◌<◌, Some, length, sym, arith, slice_get}
use Rattle.vx_instances.proofs.Staying.{read_state, other_state, size_set}
use Rattle.vx_hub.proofs.Begun.{popped, tasked_more}
use Rattle.vx_hub.proofs.making.give_tasks.Goals as goal

pub loop-named-preserved : goal.loop-named-preserved
loop-named-preserved g c =
    let v = c.loop-named.invariant in
    let states = c.loop-named.states.items in
    let i = c.len-i.result in
    let port = popped c.pop.new.self.items c.args.ports.items c.in-Some.ensures.items v.ports in
    let role = popped c.pop-in-Some.new.self.items c.args.roles.items c.in-Some-pop.ensures.items v.roles in
    let fewer = port.2 in
    let fewer_roles = role.2 in
    let here : i ≡ length c.pop.new.self.items = omega (arith, c.len-i.ensures) in
    let both : length c.pop-in-Some.new.self.items ≡ length c.pop.new.self.items = omega (arith, fewer, fewer_roles, v.roles_size) in
    let within : i < length states = omega (arith, here, fewer, v.within, v.size) in
    let there : slice_get c.args.states.items i ≡ Some c.index_mut.result.now =
    sym (v.states i (omega (arith, here, fewer))) ∙ read_state states i c.index_mut.result.now within c.index_mut.ensures.value in
    record {
      roles_size = both;
      size = size_set states i _ ∙ v.size;
      within = omega (arith, fewer, v.within);
      ports = port.0;
      roles = role.0;
      states = λ j l. other_state states i j _ (λ e. omega (arith, e, here, l)) ∙ v.states j (omega (arith, l, fewer));
      tasked = rw (c.give_task.ensures, c.unnamed-port.ensures, ← here) (tasked_more c.args.states.items c.args.roles.items c.args.ports.items states
          i {role = c.in-Some-pop.role} {named = c.in-Some.named} within there (rw (here, ← both) role.1) (rw here port.1)
          (rw (here, ← fewer) v.tasked));
    }
