use Rattle.std.proofs.Common.{ap, ◌∙◌}
use Rattle.vx_transform.specs.Shelves.{copies_on, copies_put_out, copies_dropped}
use Rattle.vx_transform.proofs.Nothing.{none_before, none_behind}
use Rattle.vx_transform.proofs.shelf.Shelf.end.Goals as goal

pub end_outputs-requires : goal.end_outputs-requires
end_outputs-requires c =
    none_before (copies_put_out c.self.inside.outputs.items) (copies_dropped c.self.inside.dropped.items) (ap copies_on c.self.view_is ∙ c.requires)

pub end_parcels-requires : goal.end_parcels-requires
end_parcels-requires c =
    none_behind (copies_put_out c.self.inside.outputs.items) (copies_dropped c.self.inside.dropped.items) (ap copies_on c.self.view_is ∙ c.requires)
