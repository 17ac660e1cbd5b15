use Rattle.std.proofs.Common.{◌≡◌, ◌<◌, length, Some, sym, ◌∙◌, arith}
use Rattle.std.proofs.lemmas.Grind.{common_steps}
use Rattle.std.proofs.lemmas.Bool.Decides.{nat_tests}
use Rattle.vx_value.specs.Datum.{Fields, named_of}
use Rattle.vx_value.specs.Values.{datum_of}
use Rattle.vx_value.specs.Events.{value_under, blocked_names}
use Rattle.vx_value.proofs.Searches.{held_at}
use Rattle.vx_value.proofs.Steps.{open-inside, only-fields-open, blocked_names-nil, rest_of, put-inside, on_ok}
use Rattle.vx_value.specs.declared.value.Value.TheVariants as variant
use Rattle.vx_value.proofs.Writes.{replaced, replaced-rise}
use Rattle.vx_value.proofs.field_list.FieldList.+put.Goals as goal

pub put-requires : goal.put-requires
put-requires t c =
    let more : 0 < length (rest_of c.args.names.now) = grind (arith, nat_tests, c.if-is_empty.ensures) in
    let held : value_under c.args.self.now c.as_str.result.now ≡ Some (Fields (named_of c.in-Fields.inner)) = rw (c.in-Fields.is, c.self.view_is) at (sym (held_at c.self.inside.fields.items c.as_str.result.now c.in-Ok.i c.index_mut.result.now c.index_mut.ensures.value (rw (← c.self.view_is) at c.in-Ok.ensures.ok))) in
    let open_path : blocked_names c.in-Fields.inner (rest_of c.args.names.now) ≡ 0 = open-inside c.args.self.now c.args.names.now c.name-item.result c.as_str.result.now c.in-Fields.inner c.in-len1-up.len_at_least c.name-item.is c.as_str.ensures more held c.requires.open in
    (grind (arith, common_steps), (more, open_path))

pub unreachable-requires-in_default-value : goal.unreachable-requires-in_default-value
unreachable-requires-in_default-value t c =
    let held : Some (datum_of c.index_mut.result.now.value) ≡ value_under c.args.self.now c.as_str.result.now = rw c.self.view_is at (held_at c.self.inside.fields.items c.as_str.result.now c.in-Ok.i c.index_mut.result.now c.index_mut.ensures.value (rw (← c.self.view_is) at c.in-Ok.ensures.ok)) in
    only-fields-open c.args.self.now c.args.names.now c.name-item.result c.as_str.result.now c.index_mut.result.now.value c.in-len1-up.len_at_least c.name-item.is c.as_str.ensures (grind (arith, nat_tests, c.if-is_empty.ensures)) held c.requires.open c.in_default-value.not-Fields

pub invariant_of-self : goal.invariant_of-self
invariant_of-self t c =
    replaced-rise c.self.inside.fields.items c.args.self.now c.as_str.result.now c.in-Ok.i c.index_mut.result.now (variant.Fields c.put.new.self) c.self.view_is c.index_mut.ensures.value c.in-Ok.ensures.ok c.self.invariant

pub put-requires-in-Err : goal.put-requires-in-Err
put-requires-in-Err t c =
    let more : 0 < length (rest_of c.args.names.now) = grind (arith, nat_tests, c.if-is_empty.ensures) in
    (grind (arith, common_steps), (more, rw c.new-inner.ensures (blocked_names-nil (rest_of c.args.names.now))))

pub returns-in-Fields-clause-ok : goal.returns-in-Fields-clause-ok
returns-in-Fields-clause-ok t c =
    let more : 0 < length (rest_of c.args.names.now) = grind (arith, nat_tests, c.if-is_empty.ensures) in
    let held : value_under c.args.self.now c.as_str.result.now ≡ Some (Fields (named_of c.in-Fields.inner)) = rw (c.in-Fields.is, c.self.view_is) at (sym (held_at c.self.inside.fields.items c.as_str.result.now c.in-Ok.i c.index_mut.result.now c.index_mut.ensures.value (rw (← c.self.view_is) at c.in-Ok.ensures.ok))) in
    on_ok c.put.result (λ e.
    replaced c.self.inside.fields.items c.args.self.now c.as_str.result.now c.in-Ok.i c.index_mut.result.now (variant.Fields c.put.new.self) c.self.view_is c.index_mut.ensures.value c.in-Ok.ensures.ok
    ∙ put-inside c.args.self.now c.args.names.now c.name-item.result c.as_str.result.now c.in-Fields.inner c.put.new.self (datum_of c.args.value) c.in-len1-up.len_at_least c.name-item.is c.as_str.ensures more held e)
    c.put.ensures.ok
