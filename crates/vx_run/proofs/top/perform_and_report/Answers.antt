use Rattle.vx_run.specs.Running.{IsReadOut, NoneMissing}
use Rattle.vx_run.proofs.Called.{called_kept}
use Rattle.vx_run.proofs.Summing.{keeps, missing_short, read_short_of, summary_kept}
use Rattle.vx_run.proofs.top.perform_and_report.Goals as goal

pub returns-clause-called : goal.returns-clause-called
returns-clause-called g c =
    let o = c.perform-outcome.result in
    called_kept c.args.words.now c.args.environment.now (g.W.World.texts c.args.world.now) (g.W.World.calls c.args.world.now) (g.W.World.calls c.perform-outcome.new.world)
    o.history o.ports o.fault c.report.result c.report.ensures.kept c.perform-outcome.ensures.none_missing c.perform-outcome.ensures.called

pub returns-clause-summary : goal.returns-clause-summary
returns-clause-summary g c =
    let o = c.perform-outcome.result in
    summary_kept c.args.words.now o.history o.fault c.report.result o.summary c.report.ensures.kept c.perform-outcome.ensures.summary

pub returns-clause-read : goal.returns-clause-read
returns-clause-read g c =
    let o = c.perform-outcome.result in
    keeps (IsReadOut o.history) o.fault c.report.result c.report.ensures.kept (read_short_of o.history o.fault) c.perform-outcome.ensures.read

pub returns-clause-none_missing : goal.returns-clause-none_missing
returns-clause-none_missing g c =
    let o = c.perform-outcome.result in
    let texts = g.W.World.texts c.args.world.now in
    keeps (NoneMissing c.args.words.now c.args.environment.now texts o.history o.ports) o.fault c.report.result c.report.ensures.kept
    (missing_short c.args.words.now c.args.environment.now texts o.history o.ports o.fault c.perform-outcome.ensures.installed) c.perform-outcome.ensures.none_missing
