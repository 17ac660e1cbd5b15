use Rattle.std.proofs.Common.{◌∙◌, sym}
use Rattle.vx_ready.proofs.Working.{unsent_there, idle_there}
use Rattle.vx_ready.proofs.jobs.transform_job.Goals as goal

pub returns-then-not-is_sent-clause-none : goal.returns-then-not-is_sent-clause-none
returns-then-not-is_sent-clause-none g c = unsent_there c.args.engine.now.log c.args.i (sym c.is_sent.ensures ∙ c.if-not-is_sent.true)

pub returns-then-is_unbuffered-clause-none : goal.returns-then-is_unbuffered-clause-none
returns-then-is_unbuffered-clause-none g c =
    idle_there g.P.Port.observed c.args.engine.now c.requires.stands c.args.i c.requires.within c.requires.settled c.requires.transform c.requires.alone (sym c.is_unbuffered.ensures ∙ c.if-is_unbuffered.true)
