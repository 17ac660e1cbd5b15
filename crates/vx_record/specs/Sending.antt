-- The rows of Split and Push.
use Rattle.std.specs.Prelude.{ℕ, ◌+◌, ◌*◌, ◌^◌, ◌<◌, ◌≤◌, ◌≡◌, false, Some, List, [], ◌∷◌, length}
use Rattle.vx_value.specs.declared.event.Event.{Event}
use Rattle.vx_record.specs.declared.child.Child.{Child}
use Rattle.vx_record.specs.Records.{Record}
use Rattle.vx_record.specs.Copies.{children_of, next_copy}
use Rattle.vx_record.specs.Turns.{is_out}
use Rattle.vx_record.specs.Lists.{outputs, waiting, all_waiting}
use Rattle.vx_record.specs.Parcels.{parcel_event, parcel_ports, port_list}
use Rattle.vx_record.specs.Routing.{routes}
use Rattle.vx_record.specs.Stages.{first_room}

-- the first of some parcels
abbrev pub IsOldest : List ℕ → List (List ℕ) → Type 0
IsOldest copies [] = ⊥
IsOldest copies (parcel ∷ younger) = copies ≡ parcel

-- the oldest output is replaced by fresh children for all its targets, of which there is one at least
pub record IsSplit (h : Record) (i ports : ℕ) (copies : List ℕ) (event : Event) (children : List Child) : Type 0 where
  pub unleased : is_out h i ≡ false
  pub none_waits : all_waiting h i ≡ []
  pub oldest : IsOldest copies (outputs h i)
  pub on_ports : ports ≡ parcel_ports h copies
  pub same_event : event ≡ parcel_event h copies
  pub some : 0 < length children
  pub made : children ≡ children_of (next_copy h) (length copies) (routes h i (port_list ports))

-- and the numbers of its children are not used up
pub record MaySplit (h : Record) (i ports : ℕ) (copies : List ℕ) (event : Event) (children : List Child) : Type 0 where
  pub split : IsSplit h i ports copies event children
  pub fits : next_copy h + length children * length copies ≤ 2 ^ 63

-- the oldest child for a target enters the target's first stage that is not full
pub record MayPush (h : Record) (i t s : ℕ) (copies : List ℕ) : Type 0 where
  pub unleased : is_out h i ≡ false
  pub oldest : IsOldest copies (waiting h i t)
  pub room : first_room h t ≡ Some s
