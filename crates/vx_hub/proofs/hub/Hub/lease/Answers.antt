use Rattle.std.proofs.Common.{refl}
use Rattle.vx_hub.proofs.Coming.{had_work, unclosed_at}
use Rattle.vx_hub.proofs.hub.Hub.lease.Goals as goal

pub returns-in-Some-clause-works : goal.returns-in-Some-clause-works
returns-in-Some-clause-works g c =
    had_work c.args.self.now.engine.log {first = c.in-Some.field-0.job} {asked = c.in-Some.field-0.job} c.in-Some.ensures.some.works c.max-now.ensures c.hand_out.ensures.out.instance_is refl c.hand_out.ensures.comes

pub returns-in-Some-clause-unclosed : goal.returns-in-Some-clause-unclosed
returns-in-Some-clause-unclosed g c = unclosed_at c.hand_out.new.engine.log _ _ _ _ _ c.max-now.ensures c.hand_out.ensures.out.instance_is c.hand_out.ensures.unclosed
