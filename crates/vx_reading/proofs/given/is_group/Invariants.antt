use Rattle.std.proofs.Common.{◌≡◌, drop}
use Rattle.vx_reading.specs.Judging.{is_group}
use Rattle.vx_reading.specs.Views.{rows_view}
use Rattle.vx_reading.proofs.given.is_group.Given as goal

-- the rows that are left say what all say
abbrev pub invariant-loop-row : goal.invariant-loop-row
invariant-loop-row l = is_group (rows_view (drop l.row-index l.rows)) l.group ≡ is_group (rows_view l.rows) l.group
