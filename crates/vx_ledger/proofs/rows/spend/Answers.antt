use Rattle.std.proofs.Common.{arith}
use Rattle.vx_ledger.proofs.RowLaws.{read_at}
use Rattle.vx_ledger.proofs.rows.spend.Goals as goal

pub overflow_sub-row : goal.overflow_sub-row
overflow_sub-row c =
    let at = read_at c.args.batch c.args.place c.args.outcome c.args.rows.now.items c.row_index-i.result c.index-row.result.now c.requires (cc) c.index-row.ensures in
    grind (arith, at.count)

pub returns-then-row-eq1-clause-rows : goal.returns-then-row-eq1-clause-rows
returns-then-row-eq1-clause-rows c =
    let at = read_at c.args.batch c.args.place c.args.outcome c.args.rows.now.items c.row_index-i.result c.index-row.result.now c.requires (cc) c.index-row.ensures in
    grind (arith, at.last, c.remove.ensures.items, c.remove.ensures.variant, c.row_index-i.ensures.below)

pub returns-then-row-eq1-clause-notice : goal.returns-then-row-eq1-clause-notice
returns-then-row-eq1-clause-notice c =
    let at = read_at c.args.batch c.args.place c.args.outcome c.args.rows.now.items c.row_index-i.result c.index-row.result.now c.requires (cc) c.index-row.ensures in
    grind (arith, at.notice_last, c.batch_update-row.ensures, c.status.ensures)

pub returns-else-row-eq1-clause-rows : goal.returns-else-row-eq1-clause-rows
returns-else-row-eq1-clause-rows c =
    let at = read_at c.args.batch c.args.place c.args.outcome c.args.rows.now.items c.row_index-i.result c.index-row.result.now c.requires (cc) c.index-row.ensures in
    grind (arith, at.more, at.count, c.batch_update-row.ensures, c.status.ensures)

pub returns-else-row-eq1-clause-notice : goal.returns-else-row-eq1-clause-notice
returns-else-row-eq1-clause-notice c =
    let at = read_at c.args.batch c.args.place c.args.outcome c.args.rows.now.items c.row_index-i.result c.index-row.result.now c.requires (cc) c.index-row.ensures in
    grind (arith, at.notice_more, at.count)
