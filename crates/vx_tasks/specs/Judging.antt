-- What becomes of some parcels, each by the ports on which it is put out.
use Rattle.std.specs.Prelude.{◌≡◌, ◌≤◌, ℕ, ◌==◌, if◌then◌else◌, List, [], ◌∷◌, ◌++◌}
use Rattle.vx_ledger.specs.Copies.{numbers_of}
use Rattle.vx_ledger.specs.declared.parcel.Parcel.{Parcel}
use Rattle.vx_transform.specs.declared.output.Output.{Output}
use Rattle.vx_record.specs.declared.output.Output.{Output as NotedOutput}
use Rattle.vx_record.specs.Copies.{count, joined}
use Rattle.vx_record.specs.Places.{put_out}
use Rattle.vx_record.specs.Lists.{shrunk}
use Rattle.vx_places.specs.Numbers.{numbers, parcels_out, AreNoted, EachFilled}

-- those that are put out, as their entry has them: each on the ports in its place, where there is one
abbrev pub put_out_on : List ℕ → List Parcel → List NotedOutput
put_out_on [] parcels = []
put_out_on (ports ∷ more) [] = []
put_out_on (ports ∷ more) (parcel ∷ parcels) =
    let rest = put_out_on more parcels in
    if ports == 0 then rest else record { ports = ports; copies = numbers_of parcel.finalizers; event = parcel.event } ∷ rest

-- the copies of the others, which are discarded
abbrev pub refused_on : List ℕ → List Parcel → List ℕ
refused_on [] parcels = []
refused_on (ports ∷ more) [] = []
refused_on (ports ∷ more) (parcel ∷ parcels) =
    let rest = refused_on more parcels in
    if ports == 0 then numbers_of parcel.finalizers ++ rest else rest

-- the parcels that are put out, each with its ports
abbrev pub passed : List ℕ → List Parcel → List Output
passed [] parcels = []
passed (ports ∷ more) [] = []
passed (ports ∷ more) (parcel ∷ parcels) =
    let rest = passed more parcels in
    if ports == 0 then rest else record { ports = ports; parcel = parcel } ∷ rest

-- the others
abbrev pub stopped : List ℕ → List Parcel → List Parcel
stopped [] parcels = []
stopped (ports ∷ more) [] = []
stopped (ports ∷ more) (parcel ∷ parcels) =
    let rest = stopped more parcels in
    if ports == 0 then parcel ∷ rest else rest

-- no copy is in some parcels twice
abbrev pub AreDistinct : List Parcel → Type 0
AreDistinct parcels = (c : ℕ) → count c (joined (numbers parcels)) ≤ 1

-- parcels are divided into those that are put out, as their entry has them, and those that it leaves and discards
pub record AreDivided (ports : List ℕ) (parcels : List Parcel) : Type 0 where
  pub noted : AreNoted (passed ports parcels) (put_out_on ports parcels)
  pub left : shrunk (put_out (put_out_on ports parcels)) (numbers parcels) ≡ numbers (stopped ports parcels)
  pub refused : refused_on ports parcels ≡ joined (numbers (stopped ports parcels))
  pub filled_out : EachFilled (parcels_out (passed ports parcels))
  pub filled_left : EachFilled (stopped ports parcels)
