use Rattle.std.proofs.Common.{◌≡◌, drop}
use Rattle.vx_condition.specs.Merging.{strategy_of}
use Rattle.vx_reduce.proofs.merge_rules.MergeRules.how_of.Given as goal

-- no strategy so far has the name
abbrev pub invariant-loop-strategy : goal.invariant-loop-strategy
invariant-loop-strategy l = strategy_of l.self.strategies l.name ≡ strategy_of (drop l.strategy-index l.self.strategies) l.name
