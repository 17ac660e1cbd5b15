use Rattle.std.proofs.Common.{arith, length}
use Rattle.vx_ledger.proofs.RowLaws.{AreKept-grown_rows}
use Rattle.vx_ledger.proofs.SplitLaws.{last_target}
use Rattle.vx_ledger.proofs.batches.Batches.replace.Goals as goal

pub grow-requires-clause-kept : goal.grow-requires-clause-kept
grow-requires-clause-kept c =
    let last = last_target c.args.k (length c.args.parent) c.requires.targets in
    let fits = rw (← c.self.view_is) at c.requires.fits in
    (c.self.inside.next, c.self.invariant.rows, omega (arith, last, fits))

pub grow-requires-clause-live : goal.grow-requires-clause-live
grow-requires-clause-live c = rw (← c.self.view_is) at c.requires.live

pub invariant_of-self : goal.invariant_of-self
invariant_of-self c =
    let last = last_target c.args.k (length c.args.parent) c.requires.targets in
    let fits = rw (← c.self.view_is) at c.requires.fits in
    rw (c.len.ensures, c.len-2.ensures)
    (record {
      numbers = omega (arith, last, fits);
      rows = rw c.grow.ensures (AreKept-grown_rows c.self.inside.next _ _ c.args.parent c.self.inside.rows.items c.self.invariant.rows (omega (arith, last, fits)));
    })

pub returns-clause-kept : goal.returns-clause-kept
returns-clause-kept c =
    let last = last_target c.args.k (length c.args.parent) c.requires.targets in
    let fits = rw (← c.self.view_is) at c.requires.fits in
    rw (c.len.ensures, c.len-2.ensures)
    (record {
      numbers = omega (arith, last, fits);
      rows = rw c.grow.ensures (AreKept-grown_rows c.self.inside.next _ _ c.args.parent c.self.inside.rows.items c.self.invariant.rows (omega (arith, last, fits)));
    })
