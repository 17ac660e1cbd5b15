use Rattle.vx_ledger.proofs.CopyLaws.{joined-each_alone}
use Rattle.vx_ledger.specs.Copies.{numbered}
use Rattle.vx_ledger.proofs.batches.Batches.born_each.Goals as goal

pub returns-in-Ok-add_row-clause-exchange : goal.returns-in-Ok-add_row-clause-exchange
returns-in-Ok-add_row-clause-exchange c =
    let next = c.args.self.now.next in
    rw (c.from_vec.ensures, c.in-Ok-each_numbered.ensures, c.in-Ok.ensures.first, joined-each_alone (numbered c.args.n next next next))
    c.in-Ok-add_row.ensures.exchange
