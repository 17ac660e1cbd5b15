use Rattle.std.proofs.Common.{◌≡◌, take}
use Rattle.vx_plan.proofs.copies.copy_strategies.Given as goal

abbrev pub invariant-loop-strategy : goal.invariant-loop-strategy
invariant-loop-strategy l = l.copies ≡ take l.strategy-index l.strategies
