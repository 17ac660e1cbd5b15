use Rattle.vx_plan.specs.Ports.{port_of}
use Rattle.vx_run.proofs.Prepared.{port_untouched}
use Rattle.vx_run.proofs.preparing.port.Goals as goal

pub returns-in_ok-port-in-Some-clause-untouched : goal.returns-in_ok-port-in-Some-clause-untouched
returns-in_ok-port-in-Some-clause-untouched g c =
    port_untouched (port_of c.args.once c.args.plan.now.global.data_dir c.args.component.now) c.in_ok-spec.field-0 c.in-Some.spec
    (g.W.Port.Port.observed c.in_ok-port-in-Some.field-0) c.in_ok-spec.ensures c.in-Some.is c.in_ok-port-in-Some.ensures.fresh
