use Rattle.std.proofs.Common.{IfOk, subst}
use Rattle.vx_ledger.specs.Copies.{joined, numbered}
use Rattle.vx_balance.specs.Promises.{CreatesBatch}
use Rattle.vx_balance.proofs.Steps.{starts_batch, each_again}
use Rattle.vx_balance.proofs.balance.Balance.start_batch.Goals as goal

pub returns-clause-creates : goal.returns-clause-creates
returns-clause-creates c =
    let e = c.born_each.ensures in
    subst (λ old. IfOk c.born_each.result (λ r. CreatesBatch c.args.instance c.args.n r.0 (joined r.1) old c.born_each.new.self)) c.self.view_is
    (starts_batch c.args.instance c.args.n c.self.inside.batches c.born_each.new.self c.born_each.result e.number e.singly e.next e.rows e.exchange e.kept)

pub returns-clause-each : goal.returns-clause-each
returns-clause-each c =
    let next = c.self.inside.batches.next in
    each_again (numbered c.args.n next next next) c.born_each.result c.born_each.ensures.singly
