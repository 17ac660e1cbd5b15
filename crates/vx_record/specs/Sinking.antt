-- The rows of Take and Attempt.
use Rattle.std.specs.Prelude.{ℕ, ◌<◌, ◌≤◌, ◌≡◌, true, false, Some, List, length}
use Rattle.std.specs.List.{list_any, list_all}
use Rattle.vx_value.specs.Texts.{ByteString}
use Rattle.vx_ends.specs.declared.trouble.Reply.{Reply}
use Rattle.vx_ends.specs.declared.trouble.Reply.TheVariants as reply
use Rattle.vx_record.specs.Records.{Record}
use Rattle.vx_record.specs.Copies.{joined}
use Rattle.vx_record.specs.Turns.{is_out, since_lease, lease_now, is_take_of, is_attempt_of}
use Rattle.vx_record.specs.Installs.{transform_at, sink_at, device_at}
use Rattle.vx_record.specs.Lists.{contents, held}
use Rattle.vx_record.specs.Stages.{first_filled}
use Rattle.vx_record.specs.Inputs.{ticks_wait}
use Rattle.vx_record.specs.SinkBatches.{is_batch_closed, is_full_batch, retry_from}
use Rattle.vx_record.specs.Encoding.{encoded, is_prefix}
use Rattle.vx_record.specs.Sending.{IsOldest}

-- Takes stand at the beginning of a turn; they end where a sink's batch closes or is full, and no transform takes behind a Tick that it has not answered
pub record MayTake (h : Record) (i s : ℕ) (copies : List ℕ) : Type 0 where
  pub out : is_out h i ≡ true
  pub only_takes : list_all (is_take_of i) (since_lease h i) ≡ true
  pub few : length (since_lease h i) < 64
  pub first : first_filled h i ≡ Some s
  pub oldest : IsOldest copies (contents h i s)
  pub unclosed : sink_at h i ≡ true → is_batch_closed h i (lease_now h i) ≡ false
  pub room : sink_at h i ≡ true → is_full_batch h i ≡ false
  pub unticked : transform_at h i ≡ true → ticks_wait h i ≡ false

-- an Attempt gives the whole closed sink batch, or the first bytes of it; a sink without a port is always answered Ok
pub record MayAttempt (h : Record) (i : ℕ) (copies : List ℕ) (bytes : ByteString) (answer : Reply) : Type 0 where
  pub sink : sink_at h i ≡ true
  pub out : is_out h i ≡ true
  pub once : list_any (is_attempt_of i) (since_lease h i) ≡ false
  pub all : copies ≡ joined (held h i)
  pub batch_closed : is_batch_closed h i (lease_now h i) ≡ true
  pub waited : retry_from h i ≤ lease_now h i
  pub given : is_prefix bytes (encoded h i (held h i)) ≡ true
  pub whole : answer ≡ reply.Ok → bytes ≡ encoded h i (held h i)
  pub blackhole_ok : device_at h i ≡ false → answer ≡ reply.Ok
