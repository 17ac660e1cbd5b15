use Rattle.vx_value.specs.Reads.{HasRead}
use Rattle.vx_value.proofs.path.Path.read.Given as goal

abbrev pub invariant-loop-i : goal.invariant-loop-i
invariant-loop-i l = HasRead l.text l.i l.reader.mode l.reader.name.items l.reader.names
