use Rattle.std.proofs.Common.{◌≡◌, ◌++◌, length}
use Rattle.vx_json.specs.ObjectBuilders.{tree_fields}
use Rattle.vx_json.proofs.object_builder.plant.Given as goal

abbrev pub invariant-loop-field : goal.invariant-loop-field
invariant-loop-field l = l.fields ++ tree_fields l.tree.entries ≡ l.fn.fields

abbrev pub decreases-loop-field : goal.decreases-loop-field
decreases-loop-field l = length l.fields
