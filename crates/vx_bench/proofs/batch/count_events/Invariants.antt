use Rattle.std.proofs.Common.{◌≤◌, take}
use Rattle.vx_bench.specs.Copies.{AreCounted}
use Rattle.vx_bench.proofs.batch.count_events.Given as goal

abbrev pub invariant-loop-line : goal.invariant-loop-line
invariant-loop-line l = AreCounted (take l.line-index l.line-items) l.count × (l.count ≤ l.line-index)
