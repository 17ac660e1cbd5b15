-- The fields of an object that is read.
use Rattle.std.specs.Prelude.{List, map}
use Rattle.vx_value.specs.Datum.{NamedDatum}
use Rattle.vx_value.specs.Values.{datum_of}
use Rattle.vx_value.specs.declared.value.Value.{Value}
use Rattle.vx_json.specs.declared.name.Name.{Name}
use Rattle.vx_json.specs.declared.object_builder.Kept.{Kept}
use Rattle.vx_json.specs.declared.object_builder.Kept.TheVariants as kept

-- the fields of a tree, by its entries
abbrev pub tree_fields : List (Name × Value) → List NamedDatum
tree_fields es = map (λ e. record { name = e.0.text; value = datum_of e.1 }) es

-- the fields that are kept
abbrev pub kept_fields : Kept → List NamedDatum
kept_fields (kept.List fields) = fields
kept_fields (kept.Tree tree) = tree_fields tree.entries
