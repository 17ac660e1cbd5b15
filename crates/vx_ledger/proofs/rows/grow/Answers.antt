use Rattle.std.proofs.Common.{arith, sym, take}
use Rattle.std.proofs.lemmas.List.{take_more}
use Rattle.vx_ledger.proofs.RowLaws.{grown_rows_none, grown_rows_more, grows_at}
use Rattle.vx_ledger.proofs.rows.grow.Goals as goal

pub loop-i-init : goal.loop-i-init
loop-i-init c = sym (grown_rows_none c.args.more c.args.rows.now.items)

pub add_to-requires-clause-live : goal.add_to-requires-clause-live
add_to-requires-clause-live c =
    let at = grows_at c.requires.kept.0 c.args.more c.loop-i.i c.args.copies.now c.at-copy.result.now c.args.rows.now.items c.requires.kept.1 c.requires.live (omega arith) c.at-copy.ensures in
    rw (c.batch.ensures, c.place.ensures, c.loop-i.invariant) at.live

pub add_to-requires-clause-fits : goal.add_to-requires-clause-fits
add_to-requires-clause-fits c =
    let at = grows_at c.requires.kept.0 c.args.more c.loop-i.i c.args.copies.now c.at-copy.result.now c.args.rows.now.items c.requires.kept.1 c.requires.live (omega arith) c.at-copy.ensures in
    rw (c.batch.ensures, c.place.ensures, c.loop-i.invariant) (omega (arith, at.fits, c.requires.kept.2))

pub loop-i-preserved : goal.loop-i-preserved
loop-i-preserved c =
    let copy = c.at-copy.result.now in
    let more = grown_rows_more c.requires.kept.0 c.args.more (take c.loop-i.i c.args.copies.now) copy c.args.rows.now.items c.requires.kept.1 in
    let front = take_more c.args.copies.now c.loop-i.i copy (omega arith) in
    grind (arith, more, front, c.add_to.ensures, c.at-copy.ensures, c.batch.ensures, c.place.ensures, c.loop-i.invariant)
