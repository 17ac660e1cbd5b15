use Rattle.vx_condition.proofs.Faulted.{HasTaken}
use Rattle.vx_condition.proofs.parsing.over.Given as goal

abbrev pub invariant-loop-i : goal.invariant-loop-i
invariant-loop-i l = HasTaken l.keeps l.text l.i l.reader
