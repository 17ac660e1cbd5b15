-- What the types of values stand for.
use Rattle.vx_value.specs.declared.value.Value.{Value}
use Rattle.vx_value.specs.declared.field.Field.{Field}
use Rattle.vx_value.specs.declared.value.Value.TheVariants as variant
use Rattle.vx_value.specs.Datum.{Datum, Null, Truth, Whole, Spelled, Words, Items, Fields, NamedDatum, data_of, named_of}

-- what a value stands for
abbrev pub datum_of : Value → Datum
datum_of variant.Null = Null
datum_of (variant.Truth b) = Truth b
datum_of (variant.Whole z) = Whole z
datum_of (variant.Spelled w) = Spelled w
datum_of (variant.Words w) = Words w
datum_of (variant.Items ds) = Items (data_of ds)
datum_of (variant.Fields fs) = Fields (named_of fs)

-- what a field stands for
abbrev pub named_datum : Field → NamedDatum
named_datum f = record { name = f.name; value = datum_of f.value }
