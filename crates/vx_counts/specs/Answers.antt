-- What a transform discards counts by the parcels that it took.
use Rattle.std.specs.Prelude.{ℕ, List, [], ◌∷◌}
use Rattle.vx_record.specs.Records.{Record}
use Rattle.vx_record.specs.Places.Place.{Held}
use Rattle.vx_counts.specs.Spends.{WasPut}

-- parcels that an instance took, each whole
abbrev pub WereTaken : Record → ℕ → List (List ℕ) → Type 0
WereTaken h i [] = Unit {0}
WereTaken h i (copies ∷ rest) = WasPut h (Held i) copies × WereTaken h i rest
