use Rattle.std.proofs.Common.{◌≡◌, drop}
use Rattle.vx_plan.specs.Walks.{names_in, next_reader}
use Rattle.vx_plan.proofs.walk.next_reader.Given as goal

-- the components that are left say what all say
abbrev pub invariant-loop-reader : goal.invariant-loop-reader
invariant-loop-reader l = next_reader (drop l.reader-index l.components) l.owner (names_in l.seen) ≡ next_reader l.components l.owner (names_in l.seen)
