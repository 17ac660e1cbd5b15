-- A value inside a list is less deep than the list.
use Rattle.std.specs.Prelude.{◌+◌, ◌≤◌, List, [], ◌∷◌, map}
use Rattle.std.proofs.Common.{arith}
use denote.Param.Weighed.{most}
use Rattle.vx_value.specs.declared.field_list.FieldList.TheDeep.{deep-Value, deep-Field}
use Rattle.vx_value.specs.declared.value.Value.{Value}
use Rattle.vx_value.specs.declared.field.Field.{Field}
use Rattle.vx_value.specs.declared.value.Value.TheVariants as variant
use Rattle.vx_value.specs.Datum.{depth, data_depth, named_depth, data_of, named_of}
use Rattle.vx_value.specs.Values.{datum_of, named_datum}

deep-Value-le : (x : Value) → deep-Value x ≤ 1 + depth (datum_of x)
deep-Value-le variant.Null = omega arith
deep-Value-le (variant.Truth b) = omega arith
deep-Value-le (variant.Whole z) = omega arith
deep-Value-le (variant.Spelled w) = omega arith
deep-Value-le (variant.Words w) = omega arith
deep-Value-le (variant.Items ds) = omega arith
deep-Value-le (variant.Fields fs) = omega arith

pub most-data : (xs : List Value) → most (λ x. deep-Value x) xs ≤ 1 + data_depth (data_of (map datum_of xs))
most-data [] = omega arith
most-data (x ∷ xs) = omega (arith, deep-Value-le x, most-data xs)

pub most-named : (fs : List Field) → most (λ f. deep-Field f) fs ≤ 1 + named_depth (named_of (map named_datum fs))
most-named [] = omega arith
most-named (f ∷ fs) = omega (arith, deep-Value-le f.value, most-named fs)
