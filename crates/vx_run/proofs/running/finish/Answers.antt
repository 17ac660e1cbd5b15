use Rattle.std.proofs.Common.{Option, IsSome, refl, sym, subst}
use Rattle.vx_plan.specs.declared.plan.Plan.{Plan}
use Rattle.vx_record.specs.Records.{Record}
use Rattle.vx_moves.specs.Returns.{HaveReturned}
use Rattle.vx_hub.specs.Remains.{AreObserved, AreObservedButGiven}
use Rattle.vx_hub.specs.Standing.{IsSameRun, GoesOn}
use Rattle.vx_run.specs.Answers.{IsJudged}
use Rattle.vx_run.specs.Moments.{IsTimely, AreTimely}
use Rattle.vx_run.specs.Running.{IsReadOut}
use Rattle.vx_run.proofs.Counting.{judged_short, but_short}
use Rattle.vx_run.proofs.Going.{on_wider}
use Rattle.vx_run.proofs.Pacing.{all_timely}
use Rattle.vx_run.proofs.Reading.{read_of, read_short}
use Rattle.vx_run.proofs.running.finish.Goals as goal

pub returns-clause-judged : goal.returns-clause-judged
returns-clause-judged g c = judged_short c.end-ports.result.history c.judge-fault.result c.count-tallies.result.fault c.count-tallies.ensures.kept
    (subst (λ (h : Record). IsJudged h c.judge-fault.result) (sym c.end-ports.ensures.history) c.judge-fault.ensures.judged)

pub returns-clause-observed : goal.returns-clause-observed
returns-clause-observed g c = record {
  whole = but_short _ _ c.judge-fault.result c.count-tallies.result.fault c.count-tallies.ensures.kept
      (λ fed. subst (λ (h : Record). AreObserved g.P.Port.observed h c.end-ports.result.ports) (sym c.end-ports.ensures.history) (c.end-ports.ensures.observed fed)) c.judge-fault.ensures.sure;
  rest = subst (λ (h : Record). AreObservedButGiven g.P.Port.observed h c.end-ports.result.ports) (sym c.end-ports.ensures.history) c.end-ports.ensures.observed_but;
}

pub returns-clause-returned : goal.returns-clause-returned
returns-clause-returned g c = but_short _ _ c.judge-fault.result c.count-tallies.result.fault c.count-tallies.ensures.kept
    (λ fed. subst HaveReturned (sym c.end-ports.ensures.history) (c.end-ports.ensures.returned fed)) c.judge-fault.ensures.sure

pub returns-clause-same : goal.returns-clause-same
returns-clause-same g c =
    let old = c.args.hub.engine.log in
    subst (λ (h : Record). IsSameRun old h) (sym c.end-ports.ensures.history)
    (c.engine_laws.ensures.stays old c.drive.new.hub.engine.log c.drive.ensures.hub.stands.legal (on_wider (IsTimely (g.C.Clock.gave c.args.clock.now)) old c.drive.new.hub.engine.log c.drive.ensures.on) (subst (λ (o : Option Plan). IsSome o) (sym c.requires.hub.stands.run.installed) refl))

pub returns-clause-read : goal.returns-clause-read
returns-clause-read g c =
    let engine = c.drive.new.hub.engine in
    subst (λ (h : Record). IsReadOut h c.count-tallies.result.fault) (sym c.end-ports.ensures.history)
    (read_short engine.log engine.run.plan c.judge-fault.result c.count-tallies.result.fault c.count-tallies.ensures.kept c.end-ports.ensures.ended c.drive.ensures.hub.stands.run.installed
    (read_of engine.log engine.run.plan c.judge-fault.result c.end-ports.ensures.ended c.drive.ensures.hub.stands.run.installed c.judge-fault.ensures.judged))

pub returns-clause-on : goal.returns-clause-on
returns-clause-on g c =
    let old = c.args.hub.engine.log in
    subst (λ (h : Record). GoesOn old h) (sym c.end-ports.ensures.history) (on_wider (IsTimely (g.C.Clock.gave c.args.clock.now)) old c.drive.new.hub.engine.log c.drive.ensures.on)

pub returns-clause-moments : goal.returns-clause-moments
returns-clause-moments g c =
    let gave = g.C.Clock.gave c.args.clock.now in
    subst (AreTimely gave) (sym c.end-ports.ensures.history) (all_timely gave c.args.hub.engine.log c.drive.new.hub.engine.log c.requires.moments c.drive.ensures.on)
