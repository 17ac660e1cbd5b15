use Rattle.std.proofs.Common.{arith}
use Rattle.vx_ledger.proofs.CopyLaws.{slice_get-children_of}
use Rattle.vx_ledger.proofs.SplitLaws.{children_last, exchange_split}
use Rattle.vx_ledger.proofs.batches.Batches.split.Goals as goal

pub returns-then-wanted-numbers_left-clause-cause : goal.returns-then-wanted-numbers_left-clause-cause
returns-then-wanted-numbers_left-clause-cause c =
    let wanted = rw (c.len.ensures, c.from.ensures) at c.saturating_mul-wanted.ensures in
    let left = rw c.next-next.ensures.next at c.numbers_left.ensures in
    (c.next-next.ensures.next, omega (arith, wanted), omega (arith, wanted, left))

pub returns-clause-children : goal.returns-clause-children
returns-clause-children c =
    rw (c.with_last.ensures, c.in-Ok.ensures.children, c.replace-last.ensures.last, c.next-next.ensures.next, c.from-2.ensures)
    (children_last c.args.k c.args.self.now.next c.args.parent c.requires.targets)

pub returns-clause-child : goal.returns-clause-child
returns-clause-child c = λ t l.
    rw (c.with_last.ensures, c.in-Ok.ensures.children, c.replace-last.ensures.last, c.next-next.ensures.next, c.from-2.ensures, children_last c.args.k c.args.self.now.next c.args.parent c.requires.targets)
    (slice_get-children_of c.args.k t c.args.self.now.next c.args.parent l)

pub returns-clause-exchange : goal.returns-clause-exchange
returns-clause-exchange c = λ batch place.
    rw (c.replace-last.ensures.rows, c.with_last.ensures, c.in-Ok.ensures.children, c.replace-last.ensures.last, c.next-next.ensures.next, c.from-2.ensures, children_last c.args.k c.args.self.now.next c.args.parent c.requires.targets)
    (exchange_split c.args.k c.args.self.now.next batch place c.args.parent c.args.self.now.open_rows c.requires.targets c.requires.live)
