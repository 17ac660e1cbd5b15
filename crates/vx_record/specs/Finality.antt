-- What stays so in every legal record. None of it is a rule: all follows from the rows.
use Rattle.std.specs.Prelude.{◌≡◌, ℕ, true, false, ◌∷◌, ◌++◌}
use Rattle.vx_record.specs.declared.entry.Entry.TheVariants.{Lease}
use Rattle.vx_record.specs.Records.{Record}
use Rattle.vx_record.specs.Installs.{is_closed, is_retired}
use Rattle.vx_record.specs.Lists.{is_bare}
use Rattle.vx_record.specs.Routing.{is_dry}
use Rattle.vx_record.specs.Owing.{is_done}
use Rattle.vx_record.specs.Legal.{IsLegal}

-- a dry source stays dry
abbrev pub DryStays : Type 0
DryStays = (later earlier : Record) (i : ℕ) → IsLegal (later ++ earlier) → is_dry earlier i ≡ true → is_dry (later ++ earlier) i ≡ true

-- what was done when it was leased stays done
abbrev pub DoneStays : Type 0
DoneStays =
    (later earlier : Record) (i worker now polls : ℕ) → IsLegal (later ++ Lease i worker now polls ∷ earlier) → is_done earlier i ≡ true →
    is_done (later ++ Lease i worker now polls ∷ earlier) i ≡ true

-- the port of what is leased isn't closed for good
abbrev pub LeasedUnclosed : Type 0
LeasedUnclosed = (h : Record) (i worker now polls : ℕ) → IsLegal (Lease i worker now polls ∷ h) → is_closed h i ≡ false

-- nothing stands at what was retired, from then on
abbrev pub StaysBare : Type 0
StaysBare = (h : Record) (i : ℕ) → IsLegal h → is_retired h i ≡ true → is_bare h i ≡ true
