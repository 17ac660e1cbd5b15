use Rattle.vx_value.proofs.Searches.{held_at}
use Rattle.vx_value.proofs.field_list.FieldList.find.Goals as goal

pub returns-in-Ok : goal.returns-in-Ok
returns-in-Ok c = rw (← c.self.view_is) (held_at c.self.inside.fields.items c.args.name.now c.in-Ok.i c.index.result.now c.index.ensures (rw (← c.self.view_is) at c.in-Ok.ensures.ok))
