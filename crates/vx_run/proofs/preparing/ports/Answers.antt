use Rattle.std.proofs.Common.{refl, ap, ◌∙◌, length, ◌+◌}
use Rattle.vx_ends.specs.Silent.{observed_if}
use Rattle.vx_plan.specs.declared.plan.Plan.{Plan}
use Rattle.vx_plan.specs.Ports.{port_of}
use Rattle.vx_run.specs.Calling.{HasBegun, call_of, port_calls}
use Rattle.vx_run.proofs.Called.{on_err, begun_all, ports_more, ports_cut}
use Rattle.vx_run.proofs.Prepared.{untouched_added, component_got, one_more}
use Rattle.vx_run.proofs.preparing.ports.Goals as goal

pub loop-component-preserved : goal.loop-component-preserved
loop-component-preserved g c =
    let inv = c.loop-component.invariant in
    let same = c.as_slice-component-items.ensures ∙ ap (λ (p : Plan). p.components) c.plan.view_is in
    record {
      count = one_more c.loop-component.ports c.push.new.self c.in_ok-port.port c.in-Ok.ensures.ok ∙ ap (λ n. n + 1) inv.count;
      untouched = untouched_added (observed_if g.W.Port.Port.observed) (port_of c.args.once c.args.plan.now.global.data_dir) c.args.plan.now.components c.loop-component.ports c.push.new.self c.component-item.result c.in_ok-port.port c.in-Ok.ensures.ok
          (component_got c.args.plan.now.components c.as_slice-component-items.result.now c.loop-component.component-index (length c.loop-component.ports) c.component-item.result same inv.count
          c.loop-component-test.true c.component-item.is) inv.untouched c.in_ok-port.ensures.untouched;
      called = ports_more (g.W.World.calls c.args.world.now) (g.W.World.calls c.loop-component.world) (g.W.World.calls c.port.new.world) (port_of c.args.once c.args.plan.now.global.data_dir) c.args.plan.now.components c.loop-component.component-index c.component-item.result
          (component_got c.args.plan.now.components c.as_slice-component-items.result.now c.loop-component.component-index c.loop-component.component-index c.component-item.result same refl
          c.loop-component-test.true c.component-item.is) inv.called c.in_ok-port.ensures.called;
      texts = c.in_ok-port.ensures.texts ∙ inv.texts;
      faults = c.in_ok-port.ensures.faults ∙ inv.faults;
    }

pub returns-in_err-port-clause-begun : goal.returns-in_err-port-clause-begun
returns-in_err-port-clause-begun g c =
    let same = c.as_slice-component-items.ensures ∙ ap (λ (p : Plan). p.components) c.plan.view_is in
    on_err c.from_residual.result (HasBegun (g.W.World.calls c.args.world.now) (g.W.World.calls c.port.new.world) (port_calls (port_of c.args.once c.args.plan.now.global.data_dir) c.args.plan.now.components))
    (ports_cut (g.W.World.calls c.args.world.now) (g.W.World.calls c.loop-component.world) (g.W.World.calls c.port.new.world) (port_of c.args.once c.args.plan.now.global.data_dir) c.args.plan.now.components c.loop-component.component-index c.component-item.result
    (component_got c.args.plan.now.components c.as_slice-component-items.result.now c.loop-component.component-index c.loop-component.component-index c.component-item.result same refl
    c.loop-component-test.true c.component-item.is) c.loop-component.invariant.called c.in_err-port.ensures.begun)

pub returns-in-Err-clause-begun : goal.returns-in-Err-clause-begun
returns-in-Err-clause-begun g c =
    let mid = g.W.World.calls c.loop-component.world in
    let new = g.W.World.calls c.port.new.world in
    let same = c.as_slice-component-items.ensures ∙ ap (λ (p : Plan). p.components) c.plan.view_is in
    ports_cut (g.W.World.calls c.args.world.now) mid new (port_of c.args.once c.args.plan.now.global.data_dir) c.args.plan.now.components c.loop-component.component-index c.component-item.result
    (component_got c.args.plan.now.components c.as_slice-component-items.result.now c.loop-component.component-index c.loop-component.component-index c.component-item.result same refl
    c.loop-component-test.true c.component-item.is) c.loop-component.invariant.called (begun_all mid new (call_of (port_of c.args.once c.args.plan.now.global.data_dir c.component-item.result)) c.in_ok-port.ensures.called)
