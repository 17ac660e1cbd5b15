use Rattle.std.proofs.Common.{◌∙◌, Bool, Option, sym, subst}
use Rattle.vx_ends.specs.Observation.{Grows}
use Rattle.vx_cli.specs.declared.fault.Fault.{Fault}
use Rattle.vx_run.specs.Calling.{HasCalled, HasCalledFor, run_calls}
use Rattle.vx_run.specs.Answers.{IsAnswer, IsReady}
use Rattle.vx_run.specs.Running.{IsInForce}
use Rattle.vx_run.proofs.Called.{called_all, called_unready}
use Rattle.vx_run.proofs.Counting.{answered, answered_unready, installed_for, none_missing_for, judged_unprinted}
use Rattle.vx_run.proofs.Hosted.{hosted_none, hosted_of}
use Rattle.vx_run.proofs.running.run.Goals as goal

pub returns-in-Ok-clause-answer : goal.returns-in-Ok-clause-answer
returns-in-Ok-clause-answer g c words asked = answered words c.args.environment.now (g.H.NamedHosts.names c.args.hosts.now) (g.W.World.texts c.args.world.now) (g.W.World.faults c.args.world.now) (g.W.World.faults c.prepare.new.world) c.begin.result.history c.begin.result.fault c.begin.ensures.judged

pub returns-in-Ok-clause-installed : goal.returns-in-Ok-clause-installed
returns-in-Ok-clause-installed g c words asked ends =
    let ready : IsReady words c.args.environment.now (g.W.World.texts c.args.world.now) c.in-Ok.parts.plan = record { file = c.args.file.now; asked = asked; stands = c.in-Ok.ensures.stands } in
    installed_for words c.args.environment.now (g.W.World.texts c.args.world.now) c.in-Ok.parts.plan c.begin.result.history c.begin.result.fault
    ready c.begin.ensures.judged
    (subst (λ (once : Bool). IsInForce once c.in-Ok.parts.plan c.begin.result.history c.begin.result.fault) (c.in-Ok.ensures.once ∙ sym ends) c.begin.ensures.installed)

pub returns-in-Ok-clause-none_missing : goal.returns-in-Ok-clause-none_missing
returns-in-Ok-clause-none_missing g c words asked =
    none_missing_for words c.args.environment.now (g.W.World.texts c.args.world.now) c.in-Ok.parts.once c.in-Ok.parts.plan c.begin.result.history c.begin.result.ports c.begin.result.fault
    (record { file = c.args.file.now; asked = asked; stands = c.in-Ok.ensures.stands }) c.begin.ensures.judged c.begin.ensures.installed c.begin.ensures.none_missing

pub returns-in-Ok-clause-unprinted : goal.returns-in-Ok-clause-unprinted
returns-in-Ok-clause-unprinted g c = judged_unprinted c.begin.result.history c.begin.result.fault c.begin.ensures.judged

pub returns-in-Ok-clause-called : goal.returns-in-Ok-clause-called
returns-in-Ok-clause-called g c words asked ends =
    called_all words c.args.environment.now (g.W.World.texts c.args.world.now) c.args.file.now c.in-Ok.parts.plan (g.W.World.calls c.args.world.now) (g.W.World.calls c.prepare.new.world) c.begin.result.history c.begin.result.fault
    asked c.in-Ok.ensures.stands c.begin.ensures.judged
    (subst (λ (once : Bool). IsInForce once c.in-Ok.parts.plan c.begin.result.history c.begin.result.fault) (c.in-Ok.ensures.once ∙ sym ends) c.begin.ensures.installed)
    (subst (λ (once : Bool). Grows (g.W.World.calls c.args.world.now) (g.W.World.calls c.prepare.new.world) (run_calls once c.args.file.now c.in-Ok.parts.plan)) (sym ends) c.in-Ok.ensures.called)

pub returns-in-Ok-clause-hosted : goal.returns-in-Ok-clause-hosted
returns-in-Ok-clause-hosted g c =
    hosted_of (g.H.NamedHosts.names c.args.hosts.now) c.in-Ok.parts.once c.in-Ok.parts.plan c.begin.result.history c.begin.result.fault c.begin.ensures.installed c.in-Ok.ensures.known

pub returns-in-Err-clause-answer : goal.returns-in-Err-clause-answer
returns-in-Err-clause-answer g c words asked =
    let texts = g.W.World.texts c.args.world.now in
    let before = g.W.World.faults c.args.world.now in
    let now = g.W.World.faults c.prepare.new.world in
    subst (λ (f : Option Fault). IsAnswer words c.args.environment.now (g.H.NamedHosts.names c.args.hosts.now) texts before now c.unbegun.result.history f) (sym c.unbegun.ensures.fault)
    (answered_unready words c.args.environment.now (g.H.NamedHosts.names c.args.hosts.now) texts c.args.file.now before now c.unbegun.result.history c.in-Err.fault asked c.in-Err.ensures.unready)

pub returns-in-Err-clause-hosted : goal.returns-in-Err-clause-hosted
returns-in-Err-clause-hosted g c = hosted_none (g.H.NamedHosts.names c.args.hosts.now) c.unbegun.result.history c.unbegun.ensures.history

pub returns-in-Err-clause-called : goal.returns-in-Err-clause-called
returns-in-Err-clause-called g c words asked ends =
    let old = g.W.World.calls c.args.world.now in
    let new = g.W.World.calls c.prepare.new.world in
    subst (λ (f : Option Fault). HasCalled words c.args.environment.now (g.W.World.texts c.args.world.now) old new c.unbegun.result.history f) (sym c.unbegun.ensures.fault)
    (called_unready words c.args.environment.now (g.H.NamedHosts.names c.args.hosts.now) (g.W.World.texts c.args.world.now) c.args.file.now (g.W.World.faults c.args.world.now) (g.W.World.faults c.prepare.new.world) old new c.unbegun.result.history c.in-Err.fault c.unbegun.ensures.history
    asked c.in-Err.ensures.unready
    (subst (λ (once : Bool). HasCalledFor c.args.environment.now (g.W.World.texts c.args.world.now) once c.args.file.now old new c.in-Err.fault) (sym ends) c.in-Err.ensures.begun))
