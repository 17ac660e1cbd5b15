use Rattle.vx_sourcecore.specs.Sources.{IsOf}
use Rattle.vx_sourcecore.proofs.source.SourceCore.lines.Given as goal

abbrev pub invariant-loop-line : goal.invariant-loop-line
invariant-loop-line l = IsOf l.self.decoding l.self.source_type l.self.file l.yielded 0 l.cut
