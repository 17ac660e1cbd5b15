use Rattle.std.proofs.Common.{true, false, sym, ◌∙◌}
use Rattle.std.proofs.lemmas.Result.{on_ok_weaker}
use Rattle.vx_pick.proofs.Seen.{key_seen, settled_answers}
use Rattle.vx_pick.proofs.dedupe.DedupeImmediate.answer.Goals as goal

pub returns-then-keeps-clause-answered : goal.returns-then-keeps-clause-answered
returns-then-keeps-clause-answered c =
    let key = key_seen _ _ _ _ _ c.in-Ok.ensures c.self.view_is c.get.ensures in
    on_ok_weaker c.discard.result (settled_answers _ _ _ _ _ _ true key (sym c.keeps.ensures ∙ c.if-keeps.true)) c.discard.ensures.settled

pub returns-else-keeps-clause-answered : goal.returns-else-keeps-clause-answered
returns-else-keeps-clause-answered c =
    let key = key_seen _ _ _ _ _ c.in-Ok.ensures c.self.view_is c.get.ensures in
    on_ok_weaker c.pass.result (settled_answers _ _ _ _ _ _ false key (sym c.keeps.ensures ∙ c.if-keeps.false)) c.pass.ensures.settled
