use Rattle.std.proofs.Common.{◌≡◌, List, length}
use Rattle.vx_ends.specs.declared.position.Position.{Position}
use Rattle.vx_record.specs.Confirms.{Birth}
use Rattle.vx_sourcecore.specs.Prefixes.{IsCutOf, Judgement}
use Rattle.vx_sourcecore.proofs.prefix.Prefix.advance.Given as goal

abbrev pub invariant-loop-due : goal.invariant-loop-due
invariant-loop-due l = record {
  waits : l.self.waits ≡ l.fn.self.waits;
  cut : (judged : Judgement) → (births : List Birth) → (asked : List Position) → IsCutOf l.fn.self judged births asked → IsCutOf l.self judged births asked;
}

abbrev pub decreases-loop-due : goal.decreases-loop-due
decreases-loop-due l = length l.self.behind.items
