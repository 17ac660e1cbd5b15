-- What a numbering makes of an event and of its parcel, and how it counts.
use Rattle.std.specs.Prelude.{◌≡◌, ℤ, pos, ◌+ℤ◌, codes}
use Rattle.std.specs.Int.{w64, saturate_signed}
use Rattle.vx_value.specs.Datum.{Whole}
use Rattle.vx_value.specs.Events.{with_field}
use Rattle.vx_value.specs.declared.event.Event.{Event}
use Rattle.vx_ledger.specs.declared.parcel.Parcel.{Parcel}
use Rattle.vx_transform.specs.Shelves.{Shelved, put}

-- the event with a number in its field `number`, in place of what stands there
abbrev pub numbered : ℤ → Event → Event
numbered number event = record { fields = with_field event.fields (codes "number") (Whole number) }

-- the number of the event behind that of a number: one more, and at most 2^63 - 1
abbrev pub number_behind : ℤ → ℤ
number_behind number = saturate_signed w64 (number +ℤ pos 1)

-- what it makes of a parcel, by the shelf before and behind it and by its next number before and behind it: the parcel is put out on port
-- 0 with that number, and counted
pub record IsNumbered (parcel : Parcel) (before behind : Shelved) (old new : ℤ) : Type 0 where
  pub answered : behind ≡ put before (record { ports = 1; parcel = record parcel { event = numbered old parcel.event } })
  pub next : new ≡ number_behind old
