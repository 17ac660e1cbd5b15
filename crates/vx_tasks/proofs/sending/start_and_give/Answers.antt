use Rattle.std.proofs.Common.{◌∙◌}
use Rattle.vx_tasks.proofs.Tallying.{sent_behind, sent_none}
use Rattle.vx_tasks.proofs.sending.start_and_give.Goals as goal

pub returns-in-Ok-clause-counts : goal.returns-in-Ok-clause-counts
returns-in-Ok-clause-counts g c =
    sent_behind (g.P.Port.observed c.args.port.now) (g.P.Port.observed c.start.new.self) (g.P.Port.observed c.give_and_finish.new.port) c.give_and_finish.result.1
    c.in-Ok.ensures.counts c.give_and_finish.ensures.counts (c.give_and_finish.ensures.started ∙ c.in-Ok.ensures.started)

pub returns-in-Err-clause-counts : goal.returns-in-Err-clause-counts
returns-in-Err-clause-counts g c =
    sent_none (g.P.Port.observed c.args.port.now) (g.P.Port.observed c.start.new.self) c.in-Err.trouble c.in-Err.ensures.unrefused c.in-Err.ensures.counts
