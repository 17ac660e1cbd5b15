use Rattle.std.proofs.Common.{◌≡◌, ◌++◌, ◌∷◌, [], true, sym, ◌∙◌, ap, append_assoc}
use Rattle.vx_value.specs.Events.{names_rise}
use Rattle.vx_value.specs.Values.{named_datum}
use Rattle.vx_json.specs.ObjectBuilders.{tree_fields}
use Rattle.vx_json.proofs.Building.{rise-back, put-front}
use Rattle.vx_json.proofs.object_builder.plant.Goals as goal

pub loop-field-preserved : goal.loop-field-preserved
loop-field-preserved c =
    let front = c.pop.new.self in
    let last = named_datum c.in-Some.field in
    let behind = tree_fields c.loop-field.tree.entries in
    let whole : front ++ last ∷ behind ≡ c.args.fields.now =
    sym (append_assoc front (last ∷ []) behind) ∙ ap (λ r. r ++ behind) (sym c.in-Some.ensures.some) ∙ c.loop-field.invariant in
    let rises : names_rise (last ∷ behind) ≡ true = rise-back front (last ∷ behind) (ap names_rise whole ∙ c.len.ensures.rising) in
    ap (λ r. front ++ r) (c.in_ok-insert.ensures ∙ put-front last behind rises) ∙ whole
