use Rattle.std.proofs.Common.{take}
use Rattle.vx_bench.specs.Copies.{AreCopied}
use Rattle.vx_bench.proofs.batch.copy_lines.Given as goal

abbrev pub invariant-loop-line : goal.invariant-loop-line
invariant-loop-line l = AreCopied (take l.line-index l.line-items) l.fn.out l.out
