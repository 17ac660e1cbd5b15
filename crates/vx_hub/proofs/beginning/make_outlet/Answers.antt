use Rattle.std.proofs.Common.{◌<◌, length, arith}
use Rattle.vx_plan.specs.Components.{port_names}
use Rattle.vx_plan.specs.Numbers.{reader_numbers}
use Rattle.vx_hub.proofs.Wiring.{one_wired, wired_long}
use Rattle.vx_hub.proofs.beginning.make_outlet.Goals as goal

pub rewire-requires-clause-exists : goal.rewire-requires-clause-exists
rewire-requires-clause-exists c =
    let n = length (port_names c.args.component.now) in
    let below : c.loop-port.port < n = omega (arith, c.loop-port-test.true, c.in-Ok.ensures, c.ports.ensures) in
    rw c.loop-port.invariant (wired_long (reader_numbers c.args.plan.now c.args.component.now.name) n c.loop-port.port below)

pub loop-port-preserved : goal.loop-port-preserved
loop-port-preserved c =
    let n = length (port_names c.args.component.now) in
    let f = reader_numbers c.args.plan.now c.args.component.now.name in
    let below : c.loop-port.port < n = omega (arith, c.loop-port-test.true, c.in-Ok.ensures, c.ports.ensures) in
    rw (c.rewire.ensures, c.in_ok-readers.ensures.readers, c.loop-port.invariant) (one_wired f n c.loop-port.port below)
