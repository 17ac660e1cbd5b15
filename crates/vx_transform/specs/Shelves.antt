-- Shelves, as contracts see them.
use Rattle.std.specs.Prelude.{List, [], ◌∷◌, ◌++◌, map}
use Rattle.vx_ledger.specs.Copies.{Copy, joined}
use Rattle.vx_ledger.specs.declared.parcel.Parcel.{Parcel}
use Rattle.vx_transform.specs.declared.output.Output.{Output}

-- what was put out and what was discarded, each the oldest first
pub record Shelved : Type 0 where
  pub outputs : List Output
  pub dropped : List Parcel

-- the shelf with an output behind the others
abbrev pub put : Shelved → Output → Shelved
put shelf output = record { outputs = shelf.outputs ++ output ∷ []; dropped = shelf.dropped }

-- the shelf with a discarded parcel behind the others
abbrev pub discard : Shelved → Parcel → Shelved
discard shelf parcel = record { outputs = shelf.outputs; dropped = shelf.dropped ++ parcel ∷ [] }

-- the copies of some outputs, in order
abbrev pub copies_put_out : List Output → List Copy
copies_put_out outputs = joined (map (λ (output : Output). output.parcel.finalizers) outputs)

-- the copies of some parcels, in order
abbrev pub copies_dropped : List Parcel → List Copy
copies_dropped parcels = joined (map (λ (parcel : Parcel). parcel.finalizers) parcels)

-- the copies on a shelf
abbrev pub copies_on : Shelved → List Copy
copies_on shelf = copies_put_out shelf.outputs ++ copies_dropped shelf.dropped
