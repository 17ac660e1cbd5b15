use Rattle.std.proofs.Common.{is_ok}
use Rattle.vx_value.proofs.Rising.{rise-pushed}
use Rattle.vx_value.proofs.field_list.FieldList.push.Goals as goal

pub invariant_of-self : goal.invariant_of-self
invariant_of-self c =
    rise-pushed c.self.inside.fields.items c.push.new.self.items c.args.field (is_ok c.push.result) c.push.ensures.items c.self.invariant
    (rw (← c.self.view_is) at c.requires)
