-- The rows of Read, Idle, SourceLost, Born and Confirm.
use Rattle.std.specs.Prelude.{ℕ, ◌+◌, ◌^◌, ◌<◌, ◌≤◌, ◌≡◌, Bool, true, false, Option, Some, None, List, [], ◌∷◌, length, if◌then◌else◌, ◌==◌}
use Rattle.std.specs.List.{list_any}
use Rattle.vx_ends.specs.declared.position.Position.{Position}
use Rattle.vx_value.specs.declared.event.Event.{Event}
use Rattle.vx_plan.specs.Targets.{acknowledged}
use Rattle.vx_record.specs.declared.taken.Taken.{Taken}
use Rattle.vx_record.specs.declared.entry.Entry.TheVariants.{Read, Idle}
use Rattle.vx_record.specs.Copies.{counting, next_copy}
use Rattle.vx_record.specs.Turns.{is_out, at_lease, since_lease, lease_now, is_turn_of, is_confirm_of}
use Rattle.vx_record.specs.Installs.{plan_of, name_of, source_at, device_at}
use Rattle.vx_record.specs.Reads.{bytes_taken, stream_of, events_of, end_of}
use Rattle.vx_record.specs.Confirms.{due, is_confirm_due}
use Rattle.vx_record.specs.Records.{Record, capped}
use Rattle.vx_record.specs.Ready.{can_read}
use Rattle.vx_record.specs.Generating.{IsGenerated}

-- a source that could be read when it was leased, and was not since
pub record MayTurn (h : Record) (i : ℕ) : Type 0 where
  pub source : source_at h i ≡ true
  pub out : is_out h i ≡ true
  pub readable : can_read (at_lease h i) i (lease_now h i) ≡ true
  pub once : list_any (is_turn_of i) (since_lease h i) ≡ false

-- a Read is a turn; a generator gives its next lines
pub record MayRead (h : Record) (i stream : ℕ) (took : Taken) : Type 0 where
  pub turn : MayTurn h i
  pub generated : IsGenerated h i stream took

-- in how many of the instance's last Reads and Idles, without a gap, the port failed to start
abbrev pub failed_starts : Record → ℕ → ℕ
failed_starts [] i = 0
failed_starts (Read j stream took ∷ h) i = if j == i then 0 else failed_starts h i
failed_starts (Idle j failed ∷ h) i = let before = failed_starts h i in if j == i then (if failed then before + 1 else 0) else before
failed_starts (e ∷ h) i = failed_starts h i

-- the fifth failed start in a row is no Idle
pub record MayIdle (h : Record) (i : ℕ) (failed : Bool) : Type 0 where
  pub turn : MayTurn h i
  pub device : device_at h i ≡ true
  pub few : failed ≡ true → failed_starts h i < 4

-- a source is lost by a failed take, or at its fifth failed start in a row
pub record MayBeLost (h : Record) (i at : ℕ) (failed : Bool) : Type 0 where
  pub turn : MayTurn h i
  pub device : device_at h i ≡ true
  pub after : at ≡ capped (bytes_taken h i)
  pub many : failed ≡ true → 4 ≤ failed_starts h i

-- what a Read gives a birth: its events, and the stream and the position at which the last line ends
pub record Yield : Type 0 where
  pub events : List Event
  pub stream : ℕ
  pub end : ℕ

-- what a Read of the instance yields
abbrev pub yield_of : Record → ℕ → ℕ → Taken → Yield
yield_of h i stream took =
    record { events = events_of h i stream took; stream = stream_of h i stream took; end = capped (end_of h i stream took) }

-- what the newest entry yields, if it is a Read of the instance
abbrev pub yield : Record → ℕ → Option Yield
yield (Read j stream took ∷ h) i = if j == i then Some (yield_of h i stream took) else None
yield h i = None

-- whether the batches of a source wait by its plan
abbrev pub must_wait : Record → ℕ → Bool
must_wait h i = elim (plan_of h i) [ None ↦ false | Some plan ↦ acknowledged plan (name_of h i) ]

-- a Born has what the Read directly before it yields; the numbers of copies end at 2 ^ 63
pub record MayCreateBatch (h : Record) (i batch : ℕ) (copies : List ℕ) (events : List Event) (waits : Bool) (stream end : ℕ) : Type 0 where
  pub yields : yield h i ≡ Some (record { events = events; stream = stream; end = end })
  pub some : 0 < length copies
  pub one_each : length copies ≡ length events
  pub next : copies ≡ counting (next_copy h) (length copies)
  pub number : batch ≡ next_copy h
  pub waiting : waits ≡ must_wait h i
  pub fits : next_copy h + length copies ≤ 2 ^ 63

-- a Confirm names what was due when the source was leased
pub record MayConfirm (h : Record) (i : ℕ) (positions : List Position) : Type 0 where
  pub source : source_at h i ≡ true
  pub device : device_at h i ≡ true
  pub out : is_out h i ≡ true
  pub once : list_any (is_confirm_of i) (since_lease h i) ≡ false
  pub was_due : is_confirm_due (at_lease h i) i ≡ true
  pub all_due : positions ≡ due (at_lease h i) i
