-- The sink batch that an instance holds: its attempts, and when it is closed.
use Rattle.std.specs.Prelude.{ℕ, ◌+◌, Bool, true, false, not, ◌&&◌, ◌||◌, [], ◌∷◌, length, if◌then◌else◌, ◌==◌, nat_le, nat_lt}
use Rattle.vx_value.specs.Texts.{is_empty}
use Rattle.vx_ends.specs.declared.trouble.Reply.{Reply}
use Rattle.vx_ends.specs.declared.trouble.Reply.TheVariants as reply
use Rattle.vx_plan.specs.declared.component.Component.{Component}
use Rattle.vx_plan.specs.Components.{batch_max_events, batch_timeout, retry_attempts, retry_wait}
use Rattle.vx_record.specs.declared.entry.Entry.TheVariants.{Take, Attempt}
use Rattle.vx_record.specs.Records.{Record, capped}
use Rattle.vx_record.specs.Copies.{contains, joined}
use Rattle.vx_record.specs.Turns.{lease_now}
use Rattle.vx_record.specs.Installs.{component_or}
use Rattle.vx_record.specs.Lists.{held, buffered}
use Rattle.vx_record.specs.Parcels.{first_copy}
use Rattle.vx_record.specs.Routing.{is_ending}

-- whether an attempt failed
abbrev pub is_failed : Reply → Bool
is_failed reply.Ok = false
is_failed reply.Failed = true
is_failed reply.Refused = false

-- the moment of the Lease under which the instance took a copy
abbrev pub taken_at : Record → ℕ → ℕ → ℕ
taken_at [] i c = 0
taken_at (Take j stage copies ∷ h) i c = if (j == i) && contains copies c then lease_now h i else taken_at h i c
taken_at (e ∷ h) i c = taken_at h i c

-- how many Attempts of the instance had the copy
abbrev pub attempts_with : Record → ℕ → ℕ → ℕ
attempts_with [] i c = 0
attempts_with (Attempt j copies bytes reply ∷ h) i c = attempts_with h i c + (if (j == i) && contains copies c then 1 else 0)
attempts_with (e ∷ h) i c = attempts_with h i c

-- how many Attempts with the copy failed
abbrev pub failures_with : Record → ℕ → ℕ → ℕ
failures_with [] i c = 0
failures_with (Attempt j copies bytes reply ∷ h) i c =
    failures_with h i c + (if (j == i) && contains copies c && is_failed reply then 1 else 0)
failures_with (e ∷ h) i c = failures_with h i c

-- the moment of the last of these
abbrev pub failed_at : Record → ℕ → ℕ → ℕ
failed_at [] i c = 0
failed_at (Attempt j copies bytes reply ∷ h) i c =
    if (j == i) && contains copies c && is_failed reply then lease_now h i else failed_at h i c
failed_at (e ∷ h) i c = failed_at h i c

-- how many Attempts a sink batch may have
abbrev pub attempts_allowed : Record → ℕ → ℕ
attempts_allowed h i = component_or 0 (λ (c : Component). retry_attempts c.settings) h i + 1

-- how long a sink waits after its k-th failed attempt
abbrev pub wait_after : Record → ℕ → ℕ → ℕ
wait_after h i k = component_or 0 (λ (c : Component). retry_wait c.settings k) h i

-- the copy of the sink batch that came first
abbrev pub oldest_held : Record → ℕ → ℕ
oldest_held h i = first_copy (joined (held h i))

-- whether the sink holds as many parcels as a batch may have
abbrev pub is_full_batch : Record → ℕ → Bool
is_full_batch h i = component_or false (λ (c : Component). nat_le (batch_max_events c.settings) (length (held h i))) h i

-- the moment from which on its oldest parcel has waited long enough
abbrev pub times_out : Record → ℕ → ℕ
times_out h i = component_or 0 (λ (c : Component). capped (taken_at h i (oldest_held h i) + batch_timeout c.settings)) h i

-- whether it has by that moment
abbrev pub is_timed_out : Record → ℕ → ℕ → Bool
is_timed_out h i now =
    component_or false (λ (c : Component). nat_le (capped (taken_at h i (oldest_held h i) + batch_timeout c.settings)) now) h i

-- whether no parcel can follow
abbrev pub is_last_batch : Record → ℕ → Bool
is_last_batch h i = is_ending h i && is_empty (buffered h i)

-- whether the batch was attempted
abbrev pub was_attempted : Record → ℕ → Bool
was_attempted h i = nat_lt 0 (attempts_with h i (oldest_held h i))

-- a sink batch is closed where it is full, timed out, the last one or attempted
abbrev pub is_batch_closed : Record → ℕ → ℕ → Bool
is_batch_closed h i now =
    not (is_empty (held h i)) && (is_full_batch h i || is_timed_out h i now || is_last_batch h i || was_attempted h i)

-- the moment from which on the sink batch may be attempted again
abbrev pub retry_from : Record → ℕ → ℕ
retry_from h i =
    let c = oldest_held h i in
    let k = failures_with h i c in
    if k == 0 then 0 else capped (failed_at h i c + wait_after h i k)
