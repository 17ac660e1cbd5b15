use Rattle.std.proofs.Common.{◌≡◌, ◌+◌, drop}
use Rattle.vx_ledger.specs.Ledger.{live_count, index_of}
use Rattle.vx_ledger.proofs.rows.row_index.Given as goal

abbrev pub invariant-loop-i : goal.invariant-loop-i
invariant-loop-i l =
    (l.i + index_of l.batch l.place (drop l.i l.rows.items) ≡ index_of l.batch l.place l.rows.items)
    × (live_count l.batch l.place (drop l.i l.rows.items) ≡ live_count l.batch l.place l.rows.items)
