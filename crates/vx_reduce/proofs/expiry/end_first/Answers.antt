use Rattle.vx_reduce.proofs.Surrender.{indexed_first}
use Rattle.vx_reduce.proofs.expiry.end_first.Goals as goal

pub returns-clause-indexed : goal.returns-clause-indexed
returns-clause-indexed c next =
    indexed_first c.args.index.now.entries c.forget.new.index.entries c.args.entries.now.entries c.pop_first.new.self.entries next c.in-Some._number c.in-Some.group c.end.result c.in-Some.ensures.removal c.end.ensures c.forget.ensures
