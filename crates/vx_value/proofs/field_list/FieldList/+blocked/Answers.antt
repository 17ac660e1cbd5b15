use Rattle.std.proofs.Common.{◌≡◌, Some, sym, ◌∙◌, ap, arith}
use Rattle.std.proofs.lemmas.Bool.Decides.{nat_tests}
use Rattle.vx_value.specs.Datum.{Fields, named_of}
use Rattle.vx_value.specs.Events.{value_under, one_more}
use Rattle.vx_value.proofs.Steps.{blocked-none, blocked-inside, one_more-above}
use Rattle.vx_value.proofs.field_list.FieldList.+blocked.Goals as goal

pub returns-in_default-find-clause-names : goal.returns-in_default-find-clause-names
returns-in_default-find-clause-names t c =
    blocked-none c.args.self.now c.args.names.now c.name-item.result c.as_str.result.now c.in-len1-up.len_at_least c.name-item.is c.as_str.ensures (grind (arith, nat_tests, c.if-is_empty.ensures))
    c.in_default-find.ensures

pub returns-then-further-eq0-clause-names : goal.returns-then-further-eq0-clause-names
returns-then-further-eq0-clause-names t c =
    let held : value_under c.args.self.now c.as_str.result.now ≡ Some (Fields (named_of c.in-Some-as_fields.inner.now)) = rw c.in-Some-as_fields.ensures.fields at (sym c.in-Some.ensures) in
    let inside = blocked-inside c.args.self.now c.args.names.now c.name-item.result c.as_str.result.now c.in-Some-as_fields.inner.now c.in-len1-up.len_at_least c.name-item.is c.as_str.ensures (grind (arith, nat_tests, c.if-is_empty.ensures)) held in
    sym (inside ∙ ap one_more (sym c.blocked-further.ensures.names ∙ c.if-further-eq0.true))

pub returns-else-further-eq0-clause-names : goal.returns-else-further-eq0-clause-names
returns-else-further-eq0-clause-names t c =
    let held : value_under c.args.self.now c.as_str.result.now ≡ Some (Fields (named_of c.in-Some-as_fields.inner.now)) = rw c.in-Some-as_fields.ensures.fields at (sym c.in-Some.ensures) in
    let inside = blocked-inside c.args.self.now c.args.names.now c.name-item.result c.as_str.result.now c.in-Some-as_fields.inner.now c.in-len1-up.len_at_least c.name-item.is c.as_str.ensures (grind (arith, nat_tests, c.if-is_empty.ensures)) held in
    sym (inside ∙ ap one_more (sym c.blocked-further.ensures.names) ∙ one_more-above c.blocked-further.result c.if-further-eq0.false)
