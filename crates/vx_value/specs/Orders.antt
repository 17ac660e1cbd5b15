-- The order of values: first by kind, in the order of the variants, and then by what they hold. Texts are ordered by their bytes, and lists by the first place at which they differ.
use Rattle.std.specs.Prelude.{ℕ}
use Rattle.std.specs.declared.cmp.Ordering.{Ordering}
use Rattle.std.specs.declared.cmp.Ordering.TheVariants.{Less, Equal, Greater}
use Rattle.std.specs.Ordering.{ordering_then, nat_cmp, int_cmp, bool_cmp}
use Rattle.std.specs.Cmp.Lexicographic.{slice_cmp}
use Rattle.vx_value.specs.Datum.{Datum, Null, Truth, Whole, Spelled, Words, Items, Fields, Data, no_data, datum, NamedData, no_named, named}
use Rattle.vx_value.specs.Texts.{ByteString}

-- which variant a value is, counted from 0
abbrev pub kind_of : Datum → ℕ
kind_of Null = 0
kind_of (Truth b) = 1
kind_of (Whole z) = 2
kind_of (Spelled w) = 3
kind_of (Words w) = 4
kind_of (Items ds) = 5
kind_of (Fields ns) = 6

-- the order of texts by their bytes
abbrev pub text_cmp : ByteString → ByteString → Ordering
text_cmp v w = slice_cmp nat_cmp v w

abbrev mutual
  -- the order of values
  pub datum_cmp : Datum → Datum → Ordering
  datum_cmp (Truth a) (Truth b) = bool_cmp a b
  datum_cmp (Whole y) (Whole z) = int_cmp y z
  datum_cmp (Spelled v) (Spelled w) = text_cmp v w
  datum_cmp (Words v) (Words w) = text_cmp v w
  datum_cmp (Items ds) (Items es) = data_cmp ds es
  datum_cmp (Fields ns) (Fields ms) = named_cmp ns ms
  datum_cmp d e = nat_cmp (kind_of d) (kind_of e)

  -- the order of lists of values
  pub data_cmp : Data → Data → Ordering
  data_cmp no_data no_data = Equal
  data_cmp no_data (datum e es) = Less
  data_cmp (datum d ds) no_data = Greater
  data_cmp (datum d ds) (datum e es) = ordering_then (datum_cmp d e) (data_cmp ds es)

  -- the order of fields: of each first the name, and then the value
  pub named_cmp : NamedData → NamedData → Ordering
  named_cmp no_named no_named = Equal
  named_cmp no_named (named m e ms) = Less
  named_cmp (named n d ns) no_named = Greater
  named_cmp (named n d ns) (named m e ms) = ordering_then (text_cmp n m) (ordering_then (datum_cmp d e) (named_cmp ns ms))
