use Rattle.std.proofs.Common.{arith}
use Rattle.vx_ledger.proofs.RowLaws.{live_count_at, added_to_set}
use Rattle.vx_ledger.proofs.rows.add_to.Goals as goal

pub overflow_add-row : goal.overflow_add-row
overflow_add-row c =
    grind (arith, live_count_at c.args.batch c.args.place c.args.rows.now.items c.index-row.result.now c.requires.live, c.index-row.ensures, c.row_index-i.ensures.index)

pub returns : goal.returns
returns c =
    grind (arith, added_to_set c.args.batch c.args.place c.args.more c.args.rows.now.items c.index-row.result.now c.requires.live, c.index-row.ensures, c.row_index-i.ensures.index)
