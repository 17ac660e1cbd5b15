use Rattle.std.proofs.Common.{◌∙◌, ap}
use Rattle.vx_json.specs.ObjectBuilders.{tree_fields}
use Rattle.vx_json.proofs.Building.{tree-insert}
use Rattle.vx_json.proofs.object_builder.insert.Goals as goal

pub returns-in-Ok : goal.returns-in-Ok
returns-in-Ok c =
    ap tree_fields c.in-Ok.ensures.entries ∙ tree-insert c.args.tree.now.entries (record { text = c.args.name }) c.args.value
