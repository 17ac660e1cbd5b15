-- What the code's borrowed rows and values stand for.
use Rattle.std.specs.Prelude.{List, map}
use Rattle.toml.specs.View.{view}
use Rattle.vx_reading.specs.declared.exclusion.Exclusion as exclusion
use Rattle.vx_reading.specs.declared.given.Given as given
use Rattle.vx_reading.specs.declared.owner.Owner as owner
use Rattle.vx_reading.specs.declared.pair.Pair as pair
use Rattle.vx_reading.specs.declared.part.Part as part
use Rattle.vx_reading.specs.declared.place.Place as place
use Rattle.vx_reading.specs.declared.place.Place.TheVariants as places
use Rattle.vx_reading.specs.declared.placed.Placed as placed
use Rattle.vx_reading.specs.declared.row.Row as row
use Rattle.vx_reading.specs.declared.shape.Shape as shape
use Rattle.vx_reading.specs.declared.shape.Shape.TheVariants as shapes
use Rattle.vx_reading.specs.Components.{Part}
use Rattle.vx_reading.specs.Conditions.{Placed}
use Rattle.vx_reading.specs.Diagnostics.{Owner}
use Rattle.vx_reading.specs.Judging.{Given, Pair}
use Rattle.vx_reading.specs.Options.{Place, Alone, Within, Either, Each, Any, Shape, Truth, AnyText, OneOf, Texts, Whole, Condition, Stages, ListOf, OneFile, FixedText, Row, Exclusion}

abbrev pub place_view : place.Place → Place
place_view (places.Alone name) = Alone name.now
place_view (places.Within group name) = Within group.now name.now
place_view (places.Either group name) = Either group.now name.now
place_view (places.Each group most) = Each group.now most
place_view (places.Any group) = Any group.now

abbrev pub shape_view : shape.Shape → Shape
shape_view shapes.Truth = Truth
shape_view shapes.AnyText = AnyText
shape_view (shapes.OneOf texts) = OneOf (map (λ t. t.now) texts.now)
shape_view (shapes.Texts most) = Texts most
shape_view (shapes.Whole least most) = Whole least most
shape_view shapes.Condition = Condition
shape_view (shapes.Stages most) = Stages most
shape_view (shapes.ListOf of least) = ListOf of least
shape_view shapes.OneFile = OneFile
shape_view shapes.FixedText = FixedText

abbrev pub row_view : row.Row → Row
row_view r = record { place = place_view r.place; shape = shape_view r.shape; required = r.required }

abbrev pub exclusion_view : exclusion.Exclusion → Exclusion
exclusion_view x = record { earlier = place_view x.earlier; later = place_view x.later }

abbrev pub pair_view : pair.Pair → Pair
pair_view p = record { name = p.name.now; value = view p.value.now }

abbrev pub given_view : given.Given → Given
given_view g = record { place = place_view g.place; value = view g.value.now }

abbrev pub part_view : part.Part → Part
part_view p = record { class = p.class; name = p.name.now; value = view p.value.now }

abbrev pub placed_view : placed.Placed → Placed
placed_view p = record { place = place_view p.place; text = p.text.now }

abbrev pub all_placed_view : List placed.Placed → List Placed
all_placed_view all = map placed_view all

abbrev pub rows_view : List row.Row → List Row
rows_view rows = map row_view rows

abbrev pub pairs_view : List pair.Pair → List Pair
pairs_view pairs = map pair_view pairs

abbrev pub givens_view : List given.Given → List Given
givens_view all = map given_view all

abbrev pub parts_view : List part.Part → List Part
parts_view parts = map part_view parts

abbrev pub owner_view : owner.Owner → Owner
owner_view o = record { section = o.section; name = o.name.now }
