use Rattle.std.proofs.Common.{List, sym, ◌∙◌, ap}
use Rattle.vx_value.specs.Texts.{ByteString}
use Rattle.vx_value.specs.Datum.{Datum, Items, Fields, NamedDatum, data_of, named_of}
use Rattle.vx_value.specs.Events.{value_at}
use Rattle.vx_value.specs.Values.{datum_of}
use Rattle.vx_condition.specs.declared.dedupe_fields.DedupeFields.{DedupeFields}
use Rattle.vx_condition.specs.Picking.{dedupe_key}
use Rattle.vx_pick.specs.Keys.{key_item, key_datum}
use Rattle.vx_pick.proofs.Kept.{map_twice}
use Rattle.vx_pick.proofs.dedupe_key.DedupeKey.of.Goals as goal
use Rattle.vx_pick.proofs.dedupe_key.DedupeKey.of.Goals.{in-Match+in_ok-items_at-in-Match, in-Ignore+in_ok-fields_but-in-Ignore}

pub returns : goal.returns
returns c = elim c.match-fields.branch [
  | in-Match+in_ok-items_at-in-Match w ↦
      ap datum_of w.value-is
      ∙ ap (λ (ds : List Datum). Items (data_of ds))
      (w.in_ok-items_at-in-Match.ensures ∙ sym (map_twice key_item (λ (path : List ByteString). value_at c.args.event.now.fields path) w.in-Match.paths))
      ∙ ap (λ (by : DedupeFields). key_datum (dedupe_key by c.args.event.now)) (sym w.in-Match.is)
  | in-Ignore+in_ok-fields_but-in-Ignore w ↦
      ap datum_of w.value-is ∙ ap (λ (fs : List NamedDatum). Fields (named_of fs)) w.in_ok-fields_but-in-Ignore.ensures
      ∙ ap (λ (by : DedupeFields). key_datum (dedupe_key by c.args.event.now)) (sym w.in-Ignore.is)
]
