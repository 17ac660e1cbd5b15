use Rattle.std.proofs.Common.{◌≡◌, sum, map, take}
use Rattle.vx_ends.specs.declared.position.Position.{Position}
use Rattle.vx_record.specs.Records.{capped}
use Rattle.vx_counts.proofs.counts.total.Given as goal

abbrev pub invariant-loop-position : goal.invariant-loop-position
invariant-loop-position l = l.total ≡ capped (sum (map (λ (p : Position). p.end) (take l.position-index l.positions)))
