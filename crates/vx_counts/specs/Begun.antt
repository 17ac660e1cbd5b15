-- Where copies leave parcels from their ends alone, what stands at a place are first parts of the parcels that were put there.
use Rattle.std.specs.Prelude.{ℕ, ◌<◌, ◌≡◌, ◌≢◌, ◌⊎◌, ◌==◌, Bool, true, false, List, [], ◌∷◌, ◌++◌}
use Rattle.vx_record.specs.declared.entry.Entry.{Entry}
use Rattle.vx_record.specs.declared.entry.Entry.TheVariants.{Answer, Spent}
use Rattle.vx_record.specs.Records.{Record}
use Rattle.vx_record.specs.Copies.{count, joined}
use Rattle.vx_record.specs.Places.{Place, put_out}
use Rattle.vx_record.specs.Places.Place.{Held}
use Rattle.vx_record.specs.Parcels.{first_copy}
use Rattle.vx_record.specs.Lists.{shrunk, stands, parcels_at, held}
use Rattle.vx_counts.specs.Spends.{WasPut, WasPutIn}

-- some copies, one at least, are a first part of a parcel that was put at a place, or the whole
pub record IsBegun (h : Record) (p : Place) (copies : List ℕ) : Type 0 where
  pub rest : List ℕ
  pub put : WasPut h p (copies ++ rest)
  pub some : copies ≢ []

-- so are those of each of some parcels
abbrev pub AreBegun : Record → Place → List (List ℕ) → Type 0
AreBegun h p [] = Unit {0}
AreBegun h p (copies ∷ rest) = IsBegun h p copies × AreBegun h p rest

-- whether a place is where one of some instances holds what it does
abbrev pub is_held_of : (ℕ → Bool) → Place → Bool
is_held_of some (Held i) = some i
is_held_of some other = false

-- so are those of each parcel that stands anywhere, but for what some instances hold
abbrev pub EachBegun : (ℕ → Bool) → Record → Type 0
EachBegun some h = (p : Place) → is_held_of some p ≡ false → AreBegun h p (parcels_at p (stands h))

-- the copy is the last of a parcel that stands at a place
pub record IsLastAt (h : Record) (p : Place) (c : ℕ) : Type 0 where
  pub before : List (List ℕ)
  pub left : List ℕ
  pub after : List (List ℕ)
  pub is : parcels_at p (stands h) ≡ before ++ (left ++ c ∷ []) ∷ after

-- one of some instances holds a copy
pub record IsHeldBySome (some : ℕ → Bool) (h : Record) (c : ℕ) : Type 0 where
  pub holder : ℕ
  pub is : some holder ≡ true
  pub holds : 0 < count c (joined (held h holder))

-- an entry leaves first parts, but for what some instances hold: what is spent is the last copy of a parcel that stands, or one of theirs,
-- and of what its instance held an Answer leaves first parts; other entries take all that is left of a parcel
abbrev pub LeavesBegun : (ℕ → Bool) → Record → Entry → Type 0
LeavesBegun some h (Answer i outputs discarded kept) = some i ≡ false → AreBegun h (Held i) (shrunk (put_out outputs) (held h i))
LeavesBegun some h (Spent i c outcome) = ((p : Place) × IsLastAt h p c) ⊎ IsHeldBySome some h c
LeavesBegun some h other = Unit {0}

-- the copy was put at a place, and this says whether it came first in its parcel
pub record WasPutAs (h : Record) (p : Place) (c : ℕ) (first : Bool) : Type 0 where
  pub copies : List ℕ
  pub put : WasPutIn h p copies c
  pub is : first ≡ (c == first_copy copies)
