use Rattle.std.proofs.Common.{◌≡◌, drop}
use Rattle.vx_reading.specs.Judging.{row_at}
use Rattle.vx_reading.specs.Views.{place_view, rows_view}
use Rattle.vx_reading.proofs.judging.row_at.Given as goal

-- the rows that are left say what all say
abbrev pub invariant-loop-row : goal.invariant-loop-row
invariant-loop-row l = row_at (rows_view (drop l.row-index l.rows)) (place_view l.place) ≡ row_at (rows_view l.rows) (place_view l.place)
