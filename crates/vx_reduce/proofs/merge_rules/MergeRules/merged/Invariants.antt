use Rattle.std.proofs.Common.{◌≡◌, ◌+◌, ◌++◌, length, map, IsTrue}
use Rattle.vx_value.specs.Events.{names_rise}
use Rattle.vx_value.specs.Values.{named_datum}
use Rattle.vx_condition.specs.Merging.{merged_with}
use Rattle.vx_reduce.proofs.merge_rules.MergeRules.merged.Given as goal

-- the fields so far, and those to which what is left is merged, are all
abbrev pub invariant-steps : goal.invariant-steps
invariant-steps l = record {
  all : l.fields ++ merged_with l.self.group_by l.self.strategies (map named_datum l.group) (map named_datum l.event)
      ≡ merged_with l.self.group_by l.self.strategies l.fn.group l.fn.event;
  rise : IsTrue (names_rise (merged_with l.self.group_by l.self.strategies l.fn.group l.fn.event));
  group : IsTrue (names_rise (map named_datum l.group));
  event : IsTrue (names_rise (map named_datum l.event));
}

abbrev pub decreases-steps : goal.decreases-steps
decreases-steps l = length l.group + length l.event
