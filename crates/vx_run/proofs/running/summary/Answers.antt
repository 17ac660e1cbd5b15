use Rattle.vx_run.proofs.Summing.{summed_more}
use Rattle.vx_run.proofs.running.summary.Goals as goal

pub loop-number-preserved : goal.loop-number-preserved
loop-number-preserved g c =
    summed_more c.args.hub.now.engine.log c.loop-number.number c.loop-number.lines c.summary_line.new.out c.class_of-class.result c.name_of.result.now c.tally-tally.result c.in_ok-summary_line.ensures.ok c.loop-number.invariant
    (c.tally-tally.ensures c.requires.fed) c.class_of-class.ensures c.name_of.ensures
