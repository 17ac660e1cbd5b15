use Rattle.std.proofs.Common.{arith, refl}
use Rattle.vx_status.specs.declared.batch_status.BatchStatus.TheVariants.{Delivered}
use Rattle.vx_ledger.specs.declared.open_batch.OpenBatch.{OpenBatch}
use Rattle.vx_ledger.proofs.CopyLaws.{copies_of-numbered}
use Rattle.vx_ledger.proofs.RowLaws.{AreKept-push, live_count-push}
use Rattle.vx_ledger.proofs.batches.Batches.add_row.Goals as goal

pub invariant_of-self : goal.invariant_of-self
invariant_of-self c =
    let fits = rw (← c.self.view_is) at c.requires.fits in
    record {
      numbers = omega (arith, fits);
      rows = rw c.in-Ok.ensures.items (AreKept-push c.self.inside.next _ c.self.inside.rows.items _ c.self.invariant.rows refl refl (omega arith) (omega arith) (omega arith));
    }

pub returns-in-Ok-clause-kept : goal.returns-in-Ok-clause-kept
returns-in-Ok-clause-kept c =
    let fits = rw (← c.self.view_is) at c.requires.fits in
    record {
      numbers = omega (arith, fits);
      rows = rw c.in-Ok.ensures.items (AreKept-push c.self.inside.next _ c.self.inside.rows.items _ c.self.invariant.rows refl refl (omega arith) (omega arith) (omega arith));
    }

pub returns-in-Ok-clause-exchange : goal.returns-in-Ok-clause-exchange
returns-in-Ok-clause-exchange c = λ batch place.
    let n = c.self.inside.next in
    let row : OpenBatch = record { number = n; place = n; instance = c.args.instance; count = c.args.n; status = Delivered } in
    rw (← c.self.view_is, c.in-Ok.ensures.items, c.from-count.ensures)
    (omega (arith, live_count-push n batch place c.self.inside.rows.items row c.self.invariant.rows refl refl, copies_of-numbered batch place c.args.n n n n))
