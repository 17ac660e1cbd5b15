-- The rows of Closed, Retired and Abandon.
use Rattle.std.specs.Prelude.{ℕ, ◌+◌, ◌*◌, ◌^◌, ◌<◌, ◌≤◌, ◌≡◌, ◌⊎◌, true, false, Some, is_some, List, [], ◌∷◌, length, if◌then◌else◌, ◌==◌}
use Rattle.vx_value.specs.declared.event.Event.{Event}
use Rattle.vx_frame.specs.Frames.{capped}
use Rattle.vx_record.specs.declared.child.Child.{Child}
use Rattle.vx_record.specs.declared.abandon_cause.AbandonCause.{AbandonCause}
use Rattle.vx_record.specs.declared.abandon_cause.AbandonCause.TheVariants.{Grace, Numbers, WantOfMemory}
use Rattle.vx_record.specs.declared.entry.Entry.TheVariants.{Read}
use Rattle.vx_record.specs.Records.{Record}
use Rattle.vx_record.specs.Copies.{next_copy, IsLive}
use Rattle.vx_record.specs.Turns.{is_out, at_lease}
use Rattle.vx_record.specs.Installs.{component_of, device_at, is_closed, is_retired}
use Rattle.vx_record.specs.Lists.{is_bare}
use Rattle.vx_record.specs.Reads.{events_of}
use Rattle.vx_record.specs.Routing.{stopped}
use Rattle.vx_record.specs.Owing.{owes_birth, is_done}
use Rattle.vx_record.specs.Sending.{IsSplit}
use Rattle.vx_record.specs.Abandoning.{abandoned}

-- a port is closed by an instance that was done when it was leased, or after an Abandon
pub record MayClose (h : Record) (i : ℕ) : Type 0 where
  pub device : device_at h i ≡ true
  pub unclosed : is_closed h i ≡ false
  pub over : ((is_out h i ≡ true) × (is_done (at_lease h i) i ≡ true)) ⊎ (abandoned h ≡ true)

-- an instance is retired once its port is closed and it is done, or nothing stands at it after an Abandon
pub record MayRetire (h : Record) (i : ℕ) : Type 0 where
  pub known : is_some (component_of h i) ≡ true
  pub unleased : is_out h i ≡ false
  pub unretired : is_retired h i ≡ false
  pub port_closed : device_at h i ≡ true → is_closed h i ≡ true
  pub over : (is_done h i ≡ true) ⊎ ((abandoned h ≡ true) × (is_bare h i ≡ true))

-- the events of the instance's last Read
abbrev pub last_events : Record → ℕ → List Event
last_events [] i = []
last_events (Read j stream took ∷ h) i = if j == i then events_of h i stream took else last_events h i
last_events (e ∷ h) i = last_events h i

-- so many copies are wanted by a birth that an instance owes, or by a Split that lacks nothing but numbers; a count that is told
-- stands still at its end
abbrev pub BirthWants : Record → ℕ → Type 0
BirthWants h wanted = (i : ℕ) × (owes_birth h i ≡ true) × (wanted ≡ capped (length (last_events h i)))

-- the same, by a Split of some instance that has all but the numbers
pub record SplitWants (h : Record) (wanted : ℕ) : Type 0 where
  pub instance : ℕ
  pub ports : ℕ
  pub copies : List ℕ
  pub event : Event
  pub children : List Child
  pub split : IsSplit h instance ports copies event children
  pub many : wanted ≡ capped (length children * length copies)

-- what each cause needs
abbrev pub HasReason : Record → AbandonCause → Type 0
HasReason h (Grace moment now limit) = (stopped h ≡ Some moment) × (moment + limit ≤ now) × ((c : ℕ) × IsLive h c)
HasReason h (Numbers next wanted) = (next ≡ next_copy h) × (2 ^ 63 < next + wanted) × (BirthWants h wanted ⊎ SplitWants h wanted)
HasReason h WantOfMemory = Unit {0}

-- a run is abandoned once, and for a reason
pub record MayAbandon (h : Record) (cause : AbandonCause) : Type 0 where
  pub first : abandoned h ≡ false
  pub reason : HasReason h cause
