use Rattle.std.proofs.Common.{◌≡◌, take}
use Rattle.vx_ledger.specs.Ledger.{grown_rows}
use Rattle.vx_ledger.proofs.rows.grow.Given as goal

abbrev pub invariant-loop-i : goal.invariant-loop-i
invariant-loop-i l = l.rows.items ≡ grown_rows l.more (take l.i l.copies) l.initial.rows.items
