use Rattle.std.proofs.Common.{◌≡◌, ◌++◌, ◌∷◌, true, sym, ◌∙◌, ap}
use Rattle.vx_value.specs.Events.{names_rise}
use Rattle.vx_value.specs.Values.{datum_of}
use Rattle.vx_json.specs.ObjectBuilders.{tree_fields}
use Rattle.vx_json.proofs.Putting.{field, last-below-next}
use Rattle.vx_json.proofs.Building.{tree-rises}
use Rattle.vx_json.proofs.object_builder.harvest.Goals as goal

pub push-requires : goal.push-requires
push-requires c =
    let fields = c.loop-name.fields in
    let first = field c.in-Some.name.text (datum_of c.in-Some.value) in
    let rest = tree_fields c.pop_first.new.self.entries in
    let whole : fields ++ first ∷ rest ≡ tree_fields c.args.tree.entries =
    ap (λ es. fields ++ tree_fields es) (sym c.in-Some.ensures.removal) ∙ c.loop-name.invariant in
    let rises : names_rise (fields ++ first ∷ rest) ≡ true = ap names_rise whole ∙ tree-rises c.args.tree.entries c.len.ensures.ordered in
    last-below-next fields first rest rises
