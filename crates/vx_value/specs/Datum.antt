-- What a value is, as contracts see it. Its constructors have the names of the variants of `Value`.
use Rattle.std.specs.Prelude.{ℕ, suc, max, Bool, ℤ, List, [], ◌∷◌}
use Rattle.vx_value.specs.Texts.{ByteString}

mutual
  -- a value
  pub data Datum : Type 0 where
    Null : Datum
    Truth : Bool → Datum
    Whole : ℤ → Datum
    Spelled : List ℕ → Datum
    Words : List ℕ → Datum
    Items : Data → Datum
    Fields : NamedData → Datum

  -- values in order
  pub data Data : Type 0 where
    no_data : Data
    datum : Datum → Data → Data

  -- names, each with its value, in order
  pub data NamedData : Type 0 where
    no_named : NamedData
    named : List ℕ → Datum → NamedData → NamedData

-- a name and its value
pub record NamedDatum : Type 0 where
  pub name : ByteString
  pub value : Datum

-- the values of a list, as a value of kind Items has them
abbrev pub data_of : List Datum → Data
data_of [] = no_data
data_of (d ∷ ds) = datum d (data_of ds)

-- the list of the values that a value of kind Items has
abbrev pub data_list : Data → List Datum
data_list no_data = []
data_list (datum d ds) = d ∷ data_list ds

-- the fields of a list, as a value of kind Fields has them
abbrev pub named_of : List NamedDatum → NamedData
named_of [] = no_named
named_of (f ∷ fs) = named f.name f.value (named_of fs)

-- the list of the fields that a value of kind Fields has
abbrev pub named_list : NamedData → List NamedDatum
named_list no_named = []
named_list (named name d ns) = record { name = name; value = d } ∷ named_list ns

-- how deep a value is: 0 for one that has no parts, else one more than its deepest part, or 1 with no part
abbrev mutual
  pub depth : Datum → ℕ
  depth Null = 0
  depth (Truth b) = 0
  depth (Whole z) = 0
  depth (Spelled w) = 0
  depth (Words w) = 0
  depth (Items ds) = suc (data_depth ds)
  depth (Fields ns) = suc (named_depth ns)

  -- the depth of the deepest value, or 0 with none
  pub data_depth : Data → ℕ
  data_depth no_data = 0
  data_depth (datum d ds) = max (depth d) (data_depth ds)

  -- the depth of the deepest value under a name, or 0 with none
  pub named_depth : NamedData → ℕ
  named_depth no_named = 0
  named_depth (named name d ns) = max (depth d) (named_depth ns)
