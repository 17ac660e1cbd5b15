-- Where a name stands among fields, or would stand.
use Rattle.std.specs.Prelude.{◌≡◌, ℕ, ◌<◌, ◌≤◌, List, length, Some, None, insert, slice_set, take, drop, ◌++◌}
use Rattle.std.specs.List.{HoldsAt}
use Rattle.vx_value.specs.Datum.{Datum, NamedDatum}
use Rattle.vx_value.specs.Texts.{ByteString}
use Rattle.vx_value.specs.Events.{value_under, with_field}

-- the field at i has the name
pub record IsPlace (fields : List NamedDatum) (name : ByteString) (i : ℕ) : Type 0 where
  pub inside : i < length fields
  pub named : HoldsAt (λ f. f.name ≡ name) fields i
  pub held : HoldsAt (λ f. value_under fields name ≡ Some f.value) fields i
  pub put : (value : Datum) → with_field fields name value ≡ slice_set fields i (record { name = name; value = value })

-- no field has the name, which would stand at i
pub record IsGap (fields : List NamedDatum) (name : ByteString) (i : ℕ) : Type 0 where
  pub within : i ≤ length fields
  pub none : value_under fields name ≡ None
  pub put : (value : Datum) → with_field fields name value ≡ insert fields i (record { name = name; value = value })

-- no field before i has the name, or would stand behind it
pub record IsBefore (fields : List NamedDatum) (name : ByteString) (i : ℕ) : Type 0 where
  pub under : value_under fields name ≡ value_under (drop i fields) name
  pub put : (value : Datum) → with_field fields name value ≡ take i fields ++ with_field (drop i fields) name value
