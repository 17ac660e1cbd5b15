use Rattle.std.proofs.Common.{◌∙◌, ap}
use Rattle.vx_value.specs.Events.{with_field}
use Rattle.vx_value.specs.Values.{datum_of}
use Rattle.vx_value.proofs.Writes.{replaced, replaced-rise}
use Rattle.vx_value.proofs.field_list.FieldList.put_under.Goals as goal

pub invariant_of-self : goal.invariant_of-self
invariant_of-self c =
    replaced-rise c.self.inside.fields.items c.args.self.now c.as_str.result.now c.in-Ok.i c.index_mut.result.now c.args.value c.self.view_is c.index_mut.ensures.value c.in-Ok.ensures.ok c.self.invariant

pub returns-in-Ok-clause-ok : goal.returns-in-Ok-clause-ok
returns-in-Ok-clause-ok c =
    replaced c.self.inside.fields.items c.args.self.now c.as_str.result.now c.in-Ok.i c.index_mut.result.now c.args.value c.self.view_is c.index_mut.ensures.value c.in-Ok.ensures.ok
    ∙ ap (λ w. with_field c.args.self.now w (datum_of c.args.value)) c.as_str.ensures
