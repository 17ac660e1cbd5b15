use Rattle.std.proofs.Common.{◌≡◌, drop}
use Rattle.vx_condition.specs.Merging.{is_grouping}
use Rattle.vx_reduce.proofs.merge_rules.MergeRules.is_grouping.Given as goal

-- no path so far begins with the name
abbrev pub invariant-loop-path : goal.invariant-loop-path
invariant-loop-path l = is_grouping l.self.group_by l.name ≡ is_grouping (drop l.path-index l.self.group_by) l.name
