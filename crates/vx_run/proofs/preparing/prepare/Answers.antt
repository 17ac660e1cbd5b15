use Rattle.std.proofs.Common.{inr, [], ◌∷◌}
use Rattle.vx_ends.specs.declared.call.Call.TheVariants.{Config}
use Rattle.vx_plan.specs.Ports.{port_of}
use Rattle.vx_run.specs.Calling.{port_calls}
use Rattle.vx_run.proofs.Called.{grows_both, begun_behind, read_for}
use Rattle.vx_run.proofs.Counting.{lacking_unready}
use Rattle.vx_run.proofs.Served.{made_served}
use Rattle.vx_run.proofs.preparing.prepare.Goals as goal

pub returns-in-Ok-ports-clause-served : goal.returns-in-Ok-ports-clause-served
returns-in-Ok-ports-clause-served g c = made_served c.in_ok-plan.field-0.plan.components c.in_ok-plan.ensures.made

pub returns-in-Ok-ports-clause-called : goal.returns-in-Ok-ports-clause-called
returns-in-Ok-ports-clause-called g c =
    grows_both (g.W.World.calls c.args.world.now) (g.W.World.calls c.plan_at.new.world) (g.W.World.calls c.ports.new.world)
    (Config c.args.file.now ∷ []) (port_calls (port_of c.args.once c.in_ok-plan.field-0.plan.global.data_dir) c.in_ok-plan.field-0.plan.components) c.plan_at.ensures.called c.in-Ok-ports.ensures.called

pub returns-in-Some-clause-unready : goal.returns-in-Some-clause-unready
returns-in-Some-clause-unready g c =
    lacking_unready c.args.environment.now (g.H.NamedHosts.names c.args.hosts.now) (g.W.World.texts c.args.world.now) c.args.file.now (g.W.World.faults c.args.world.now) (g.W.World.faults c.plan_at.new.world) c.in_ok-plan.field-0.plan c.in-Some.fault
    c.in_ok-plan.ensures.stands c.in-Some.ensures.some

pub returns-in-Some-clause-begun : goal.returns-in-Some-clause-begun
returns-in-Some-clause-begun g c =
    read_for c.args.environment.now (g.W.World.texts c.args.world.now) c.args.once c.args.file.now (g.W.World.calls c.args.world.now) (g.W.World.calls c.plan_at.new.world) c.in-Some.fault c.plan_at.ensures.called

pub returns-in-Err-clause-begun : goal.returns-in-Err-clause-begun
returns-in-Err-clause-begun g c =
    inr (
      c.in_ok-plan.field-0.plan,
      (
        c.in_ok-plan.ensures.stands,
        begun_behind (g.W.World.calls c.args.world.now) (g.W.World.calls c.plan_at.new.world) (g.W.World.calls c.ports.new.world)
            (Config c.args.file.now ∷ []) (port_calls (port_of c.args.once c.in_ok-plan.field-0.plan.global.data_dir) c.in_ok-plan.field-0.plan.components) c.plan_at.ensures.called c.in-Err.ensures.begun,
      ),
    )
