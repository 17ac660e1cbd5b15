use Rattle.std.proofs.Common.{not, map, IsTrue, List, sym, subst}
use Rattle.std.specs.List.{list_any}
use Rattle.vx_value.specs.Datum.{NamedDatum}
use Rattle.vx_value.specs.Events.{last_below, names_rise}
use Rattle.vx_value.specs.Texts.{same_text}
use Rattle.vx_value.specs.Values.{named_datum}
use Rattle.vx_pick.proofs.Kept.{last_kept}
use Rattle.vx_pick.proofs.dedupe_key.fields_but.Goals as goal

pub keep-requires : goal.keep-requires
keep-requires c =
    let fields = c.as_slice-field-items.result.now in
    let x = c.field-item.result in
    let rise : IsTrue (names_rise (map named_datum fields)) =
    subst (λ (fs : List NamedDatum). IsTrue (names_rise fs)) (sym c.as_slice-field-items.ensures.fields) c.as_slice-field-items.ensures.rising in
    subst (λ (fs : List NamedDatum). IsTrue (last_below fs x.name)) (sym c.loop-field.invariant)
    (last_kept (λ (f : NamedDatum). not (list_any (same_text f.name) c.args.names.now)) fields c.loop-field.field-index x c.loop-field-test.true c.field-item.is rise)
