-- The values that JSON has a text for.
use Rattle.std.specs.Prelude.{◌≡◌, IsTrue, ℤ, FitsSigned}
use Rattle.std.specs.Int.{w64}
use Rattle.std.specs.Fmt.{signed_decimal}
use Rattle.std.specs.Str.{IsUtf8}
use Rattle.vx_value.specs.Datum.{Datum, Null, Truth, Whole, Spelled, Words, Items, Fields, Data, no_data, datum, NamedData, no_named, named, named_list}
use Rattle.vx_value.specs.Events.{names_rise}
use Rattle.vx_json.specs.Numbers.{NumberParts}

abbrev mutual
  -- whole numbers have 64 bits, spelled ones are spelled as JSON does and aren't whole, texts and names are UTF-8, and names rise
  pub IsWritable : Datum → Type 0
  IsWritable Null = Unit {0}
  IsWritable (Truth b) = Unit {0}
  IsWritable (Whole z) = FitsSigned w64 z
  IsWritable (Spelled w) = NumberParts w × ((z : ℤ) → FitsSigned w64 z → w ≡ signed_decimal z → ⊥)
  IsWritable (Words w) = IsUtf8 w
  IsWritable (Items ds) = AreWritable ds
  IsWritable (Fields ns) = IsTrue (names_rise (named_list ns)) × AreWritableFields ns

  pub AreWritable : Data → Type 0
  AreWritable no_data = Unit {0}
  AreWritable (datum d ds) = IsWritable d × AreWritable ds

  pub AreWritableFields : NamedData → Type 0
  AreWritableFields no_named = Unit {0}
  AreWritableFields (named n d ns) = IsUtf8 n × IsWritable d × AreWritableFields ns
