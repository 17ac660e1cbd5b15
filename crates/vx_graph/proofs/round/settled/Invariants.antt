use Rattle.std.proofs.Common.{◌≡◌, length, not, count_by}
use Rattle.vx_graph.specs.Rounds.{AllSettled}
use Rattle.vx_graph.proofs.round.settled.Given as goal

abbrev pub invariant-marking : goal.invariant-marking
invariant-marking l = record {
  same_len : length l.marks.items ≡ length l.rows;
  settled : AllSettled l.rows l.marks.items;
}

abbrev pub decreases-marking : goal.decreases-marking
decreases-marking l = count_by not l.marks.items
