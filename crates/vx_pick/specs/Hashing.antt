-- What is fed to a hasher of a value: of which kind it is, and what it holds.
use Rattle.std.specs.Prelude.{[], ◌++◌}
use Rattle.std.specs.Hash as fed
use Rattle.std.specs.Hash.{HashWrites}
use Rattle.vx_value.specs.Datum.{Datum, Null, Truth, Whole, Spelled, Words, Items, Fields, Data, no_data, datum, NamedData, no_named, named}

abbrev mutual
  -- of a value
  pub datum_fed : Datum → HashWrites
  datum_fed Null = fed.u8 0
  datum_fed (Truth b) = fed.u8 1 ++ fed.bool b
  datum_fed (Whole z) = fed.u8 2 ++ fed.i64 z
  datum_fed (Spelled w) = fed.u8 3 ++ fed.str w
  datum_fed (Words w) = fed.u8 4 ++ fed.str w
  datum_fed (Items ds) = fed.u8 5 ++ data_fed ds
  datum_fed (Fields ns) = fed.u8 6 ++ named_fed ns

  -- of values in order
  pub data_fed : Data → HashWrites
  data_fed no_data = []
  data_fed (datum d ds) = datum_fed d ++ data_fed ds

  -- of names, each with its value
  pub named_fed : NamedData → HashWrites
  named_fed no_named = []
  named_fed (named n d ns) = (fed.str n ++ datum_fed d) ++ named_fed ns
