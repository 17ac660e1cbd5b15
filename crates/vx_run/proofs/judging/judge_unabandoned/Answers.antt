use Rattle.vx_run.proofs.Judged.{none_lost, judged_lost}
use Rattle.vx_run.proofs.judging.judge_unabandoned.Goals as goal

pub judge_confirms-requires-clause-kept : goal.judge_confirms-requires-clause-kept
judge_confirms-requires-clause-kept g c =
    let engine = c.args.hub.now.engine in
    let stands = c.requires.hub.stands in
    none_lost engine.log engine.run.plan stands.legal stands.run.installed c.in-None.ensures.none

pub returns-in-Some : goal.returns-in-Some
returns-in-Some g c = record {
  judged = judged_lost c.args.hub.now.engine.log c.in-Some.lost.instance c.in-Some.lost.at c.source_failed.result c.requires.goes_on c.in-Some.ensures.lost c.in-Some.ensures.least c.source_failed.ensures;
}
