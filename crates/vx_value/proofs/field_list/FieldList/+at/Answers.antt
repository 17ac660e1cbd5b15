use Rattle.std.proofs.Common.{sym, ◌∙◌, ap, arith}
use Rattle.std.proofs.lemmas.Bool.Decides.{nat_tests}
use Rattle.vx_value.specs.Events.{value_at}
use Rattle.vx_value.proofs.Steps.{value_at-more, value_at-nil, fields_in-Fields, rest_of}
use Rattle.vx_value.proofs.field_list.FieldList.+at.Goals as goal

pub returns-in-Some : goal.returns-in-Some
returns-in-Some t c =
    c.at.ensures ∙ sym (value_at-more c.args.self.now c.args.names.now c.name-item.result c.as_str-2.result.now c.in-len1-up.len_at_least c.name-item.is c.as_str-2.ensures (grind (arith, nat_tests, c.if-is_empty.ensures))
    ∙ ap (λ fs. value_at fs (rest_of c.args.names.now)) (fields_in-Fields _ c.in-Some.inner.now c.in-Some.ensures.some))

pub returns-in-None : goal.returns-in-None
returns-in-None t c =
    sym (value_at-more c.args.self.now c.args.names.now c.name-item.result c.as_str-2.result.now c.in-len1-up.len_at_least c.name-item.is c.as_str-2.ensures (grind (arith, nat_tests, c.if-is_empty.ensures))
    ∙ ap (λ fs. value_at fs (rest_of c.args.names.now)) c.in-None.ensures.none ∙ value_at-nil (rest_of c.args.names.now))
