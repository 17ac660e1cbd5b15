-- Where a parcel goes.
use Rattle.std.specs.Prelude.{ℕ, List, [], ◌∷◌}
use Rattle.vx_ledger.specs.declared.parcel.Parcel.{Parcel}
use Rattle.vx_record.specs.Transforms.{port_bits}
use Rattle.vx_transform.specs.Shelves.{Shelved, put, discard}

-- the shelf once a parcel was put out on some ports, once whatever their number, or discarded where there are none
abbrev pub answered_on : List ℕ → Shelved → Parcel → Shelved
answered_on [] shelf parcel = discard shelf parcel
answered_on (port ∷ ports) shelf parcel = put shelf (record { ports = port_bits (port ∷ ports); parcel = parcel })
