use Rattle.std.proofs.Common.{◌≡◌, take, map}
use Rattle.vx_plan.specs.Kept.{readers_of}
use Rattle.vx_plan.proofs.targets.all_readers.Given as goal

abbrev pub invariant-loop-owner : goal.invariant-loop-owner
invariant-loop-owner l = l.lists ≡ map (readers_of l.components) (take l.owner-index l.components)
