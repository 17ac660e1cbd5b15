use Rattle.std.proofs.Common.{arith}
use Rattle.vx_ledger.proofs.RowLaws.{AreKept-spent, exchange_spent, notice_iff, live_one}
use Rattle.vx_ledger.proofs.batches.Batches.spend.Goals as goal

pub spend-requires : goal.spend-requires
spend-requires c =
    rw (c.batch-batch.ensures, c.place-place.ensures) (live_one c.args.finalizer c.self.inside.rows.items (rw (← c.self.view_is) at c.requires))

pub invariant_of-self : goal.invariant_of-self
invariant_of-self c = record {
  numbers = c.self.invariant.numbers;
  rows = rw c.spend.ensures.rows (AreKept-spent c.self.inside.next c.batch-batch.result c.place-place.result c.args.outcome c.self.inside.rows.items c.self.invariant.rows);
}

pub returns-clause-kept : goal.returns-clause-kept
returns-clause-kept c = record {
  numbers = c.self.invariant.numbers;
  rows = rw c.spend.ensures.rows (AreKept-spent c.self.inside.next c.batch-batch.result c.place-place.result c.args.outcome c.self.inside.rows.items c.self.invariant.rows);
}

pub returns-clause-exchange : goal.returns-clause-exchange
returns-clause-exchange c = λ batch place.
    rw (← c.self.view_is)
    (let rs = c.self.inside.rows.items in
    let f = c.args.finalizer in
    let live = live_one f rs (rw (← c.self.view_is) at c.requires) in
    grind (
      arith,
      c.batch-batch.ensures,
      c.place-place.ensures,
      c.spend.ensures.rows,
      exchange_spent c.self.inside.next f.batch f.place c.args.outcome batch place rs c.self.invariant.rows live,
    ))

pub returns-clause-last : goal.returns-clause-last
returns-clause-last c =
    let rs = c.self.inside.rows.items in
    let f = c.args.finalizer in
    let live = live_one f rs (rw (← c.self.view_is) at c.requires) in
    rw (c.spend.ensures.notice, c.spend.ensures.rows, c.batch-batch.ensures, c.place-place.ensures)
    (notice_iff c.self.inside.next f.batch f.place c.args.outcome rs c.self.invariant.rows live)
