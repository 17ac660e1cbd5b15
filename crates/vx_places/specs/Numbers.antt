-- Parcels by the numbers of their copies.
use Rattle.std.specs.Prelude.{◌≡◌, ◌≢◌, ◌⊎◌, ℕ, ◌==◌, if◌then◌else◌, List, [], ◌∷◌}
use Rattle.vx_ledger.specs.Copies.{Copy, numbers_of}
use Rattle.vx_ledger.specs.declared.parcel.Parcel.{Parcel}
use Rattle.vx_ledger.specs.declared.child.Child.{Child}
use Rattle.vx_transform.specs.declared.output.Output.{Output}
use Rattle.vx_record.specs.declared.child.Child.{Child as Noted}
use Rattle.vx_record.specs.declared.output.Output.{Output as NotedOutput}

-- the numbers of the copies of some parcels
abbrev pub numbers : List Parcel → List (List ℕ)
numbers [] = []
numbers (parcel ∷ rest) = numbers_of parcel.finalizers ∷ numbers rest

-- the parcels of some children
abbrev pub parcels_in : List Child → List Parcel
parcels_in [] = []
parcels_in (child ∷ rest) = child.parcel ∷ parcels_in rest

-- the parcels of some outputs
abbrev pub parcels_out : List Output → List Parcel
parcels_out [] = []
parcels_out (output ∷ rest) = output.parcel ∷ parcels_out rest

-- those that are for a target
abbrev pub for_target : ℕ → List Child → List Parcel
for_target t [] = []
for_target t (child ∷ rest) = if child.target == t then child.parcel ∷ for_target t rest else for_target t rest

-- some children as their entry has them
abbrev pub noted : List Child → List Noted
noted [] = []
noted (child ∷ rest) = record { target = child.target; copies = numbers_of child.parcel.finalizers } ∷ noted rest

-- some outputs are those of an entry, in order: by the numbers of their copies, and by their ports
abbrev pub AreNoted : List Output → List NotedOutput → Type 0
AreNoted [] [] = Unit {0}
AreNoted [] (note ∷ notes) = ⊥
AreNoted (output ∷ rest) [] = ⊥
AreNoted (output ∷ rest) (note ∷ notes) =
    (numbers_of output.parcel.finalizers ≡ note.copies) × (output.ports ≡ note.ports) × AreNoted rest notes

-- each of some outputs is on these ports
abbrev pub AreOn : ℕ → List Output → Type 0
AreOn ports [] = Unit {0}
AreOn ports (output ∷ rest) = (output.ports ≡ ports) × AreOn ports rest

-- each parcel has a copy
abbrev pub EachFilled : List Parcel → Type 0
EachFilled [] = Unit {0}
EachFilled (parcel ∷ rest) = (parcel.finalizers ≢ []) × EachFilled rest

-- a copy is among some
abbrev pub IsCopyIn : List Copy → Copy → Type 0
IsCopyIn [] copy = ⊥
IsCopyIn (c ∷ cs) copy = (c ≡ copy) ⊎ IsCopyIn cs copy
