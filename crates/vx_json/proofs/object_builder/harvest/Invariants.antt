use Rattle.std.proofs.Common.{◌≡◌, ◌++◌, length}
use Rattle.vx_json.specs.ObjectBuilders.{tree_fields}
use Rattle.vx_json.proofs.object_builder.harvest.Given as goal

abbrev pub invariant-loop-name : goal.invariant-loop-name
invariant-loop-name l = l.fields ++ tree_fields l.tree.entries ≡ tree_fields l.fn.tree.entries

abbrev pub decreases-loop-name : goal.decreases-loop-name
decreases-loop-name l = length l.tree.entries
