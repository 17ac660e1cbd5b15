use Rattle.std.proofs.Common.{◌≡◌, ◌+◌, ◌++◌}
use Rattle.vx_record.specs.Generating.{lines_from}
use Rattle.vx_sourcecore.specs.Lines.{generator_at}
use Rattle.vx_sourcecore.proofs.demo_lines.push_lines.Given as goal

abbrev pub invariant-loop-i : goal.invariant-loop-i
invariant-loop-i l = record {
  lines : l.out ≡ l.fn.out ++ lines_from l.settings l.first l.i;
  words : l.words ≡ generator_at l.settings.seed (l.first + l.i);
}
