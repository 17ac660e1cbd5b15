-- Where parcels stand in a legal record, entry by entry.
use Rattle.std.specs.Prelude.{◌≡◌, ℕ, ◌∷◌}
use Rattle.vx_record.specs.declared.entry.Entry.{Entry}
use Rattle.vx_record.specs.Records.{Record}
use Rattle.vx_record.specs.Places.{Place}
use Rattle.vx_record.specs.Lists.{stands, parcels_at}
use Rattle.vx_record.specs.Legal.{IsLegal}
use Rattle.vx_record.specs.Tasks.{mine}
use Rattle.vx_record.specs.Shifts.{shift, at}

-- what stands at a place behind one more entry is what the entry makes of what stood there
abbrev pub EntryShifts : Type 0
EntryShifts = (h : Record) (e : Entry) (p : Place) → IsLegal (e ∷ h) → parcels_at p (stands (e ∷ h)) ≡ shift e p (parcels_at p (stands h))

-- so what stands there is what all entries made of nothing
abbrev pub StandsAt : Type 0
StandsAt = (h : Record) (p : Place) → IsLegal h → parcels_at p (stands h) ≡ at h p

-- and at an instance's own place, what the entries of its task made
abbrev pub IsOwnPlace : (ℕ → Place) → Type 0
IsOwnPlace place = (h : Record) (i : ℕ) → IsLegal h → parcels_at (place i) (stands h) ≡ at (mine h i) (place i)
