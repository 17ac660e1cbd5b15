-- What a take of an instance that is out needs.
use Rattle.std.specs.Prelude.{◌≡◌, ◌<◌, ℕ, true, false, length}
use Rattle.std.specs.List.{list_all}
use Rattle.vx_record.specs.Records.{Record}
use Rattle.vx_record.specs.Turns.{is_out, since_lease, is_take_of, lease_now}
use Rattle.vx_record.specs.Installs.{sink_at, transform_at}
use Rattle.vx_record.specs.SinkBatches.{is_batch_closed}
use Rattle.vx_record.specs.Abandoning.{abandoned}
use Rattle.vx_record.specs.Inputs.{ticks_wait}

-- all that the row of a Take asks but for the parcel, which is the oldest of the first stage that has one, and for the room
pub record MayTakeNow (h : Record) (i : ℕ) : Type 0 where
  pub going : abandoned h ≡ false
  pub out : is_out h i ≡ true
  pub only_takes : list_all (is_take_of i) (since_lease h i) ≡ true
  pub few : length (since_lease h i) < 64
  pub unclosed : sink_at h i ≡ true → is_batch_closed h i (lease_now h i) ≡ false
  pub unticked : transform_at h i ≡ true → ticks_wait h i ≡ false
