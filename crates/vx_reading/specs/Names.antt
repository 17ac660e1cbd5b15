-- Names that differ.
use Rattle.std.specs.Prelude.{◌≡◌, false, List, [], ◌∷◌, map}
use Rattle.std.specs.List.{AllByRecursion}
use Rattle.vx_value.specs.Texts.{ByteString, same_text}
use Rattle.toml.specs.Data.{Data}
use Rattle.vx_plan.specs.declared.class.Class.{Class}
use Rattle.vx_plan.specs.declared.component.Component.{Component}
use Rattle.vx_reading.specs.Components.{Part, parts_in}
use Rattle.vx_reading.specs.Judging.{Pair}

-- each of some texts differs from those behind it
abbrev pub AreApart : List ByteString → Type 0
AreApart [] = Unit {0}
AreApart (name ∷ rest) = AllByRecursion (λ (other : ByteString). same_text other name ≡ false) rest × AreApart rest

-- the names of components
abbrev pub names_of : List Component → List ByteString
names_of components = map (λ (c : Component). c.name) components

-- the names of the components of a document
abbrev pub part_names : List Part → List ByteString
part_names parts = map (λ (p : Part). p.name) parts

-- the names under which a table has values
abbrev pub pair_names : List Pair → List ByteString
pair_names pairs = map (λ (p : Pair). p.name) pairs

-- in each of the three tables of a document, names differ
abbrev pub AreApartByClass : Data → Type 0
AreApartByClass root = (class : Class) → AreApart (part_names (parts_in root class))
