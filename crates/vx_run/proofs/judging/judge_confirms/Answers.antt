use Rattle.vx_run.proofs.Judged.{all_confirmed, judged_unconfirmed}
use Rattle.vx_run.proofs.judging.judge_confirms.Goals as goal

pub returns-in-None : goal.returns-in-None
returns-in-None g c =
    let engine = c.args.hub.now.engine in
    let stands = c.requires.hub.stands in
    record { judged = (c.requires.goes_on, (c.requires.kept, all_confirmed engine.log engine.run.plan stands.legal stands.run.installed c.in-None.ensures.none)) }

pub returns-in-Some : goal.returns-in-Some
returns-in-Some g c = record {
  judged = judged_unconfirmed c.args.hub.now.engine.log c.in-Some.instance c.confirm_failed.result c.requires.goes_on c.requires.kept c.in-Some.ensures.failed c.in-Some.ensures.least c.confirm_failed.ensures;
}
