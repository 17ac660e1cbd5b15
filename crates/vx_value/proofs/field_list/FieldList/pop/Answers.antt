use Rattle.std.specs.Prelude.{option_to_list}
use Rattle.vx_value.proofs.Rising.{rise-popped}
use Rattle.vx_value.proofs.field_list.FieldList.pop.Goals as goal

pub invariant_of-self : goal.invariant_of-self
invariant_of-self c =
    rise-popped c.self.inside.fields.items c.pop.new.self.items (option_to_list c.pop.result) c.pop.ensures.items c.self.invariant
