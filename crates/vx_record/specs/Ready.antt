-- Which instances may be leased.
use Rattle.std.specs.Prelude.{ℕ, ◌+◌, ◌≡◌, ◌⊎◌, Bool, true, false, not, ◌&&◌, ◌||◌, Option, Some, None, [], ◌∷◌, ◌==◌, if◌then◌else◌, nat_lt, nat_le}
use Rattle.std.specs.List.{list_any}
use Rattle.vx_value.specs.Texts.{is_empty, same_text}
use Rattle.vx_plan.specs.declared.component.Component.{Component}
use Rattle.vx_plan.specs.declared.class.Class.TheVariants.{Source, Transform, Sink}
use Rattle.vx_plan.specs.Options.{reading_interval}
use Rattle.vx_record.specs.declared.entry.Entry.TheVariants.{Read, Idle}
use Rattle.vx_record.specs.Records.{Record, capped}
use Rattle.vx_record.specs.Turns.{lease_now}
use Rattle.vx_record.specs.Installs.{component_or, device_at, name_of, started, is_closed}
use Rattle.vx_record.specs.Lists.{buffered, held}
use Rattle.vx_record.specs.Routing.{is_dry, is_sent, is_ending}
use Rattle.vx_record.specs.Confirms.{is_confirm_due}
use Rattle.vx_record.specs.SinkBatches.{is_full_batch, times_out, is_last_batch, was_attempted, is_batch_closed, retry_from}
use Rattle.vx_record.specs.Transforms.{IsTickDue}
use Rattle.vx_record.specs.Owing.{is_done}

-- how long, in milliseconds, a source rests behind a Read
abbrev pub interval_of : Record → ℕ → ℕ
interval_of = component_or 0 (λ (c : Component). reading_interval c.settings)

-- the moment from which on a source may be read: it rests behind a Read for its interval, behind an Idle for 20 milliseconds, or for a
-- second where the port failed to start
abbrev pub reading_moment : Record → ℕ → ℕ
reading_moment [] i = 0
reading_moment (Read j stream took ∷ h) i =
    let before = reading_moment h i in if j == i then capped (lease_now h i + interval_of h i) else before
reading_moment (Idle j failed ∷ h) i =
    let before = reading_moment h i in if j == i then capped (lease_now h i + (if failed then 1000 else 20)) else before
reading_moment (e ∷ h) i = reading_moment h i

-- whether an instance is an older one of the same name, with a port that isn't closed
abbrev pub blocks : Record → ℕ → ℕ → Bool
blocks h i j = nat_lt j i && same_text (name_of h j) (name_of h i) && device_at h j && not (is_closed h j)

-- whether no instance that was started is such
abbrev pub is_heir : Record → ℕ → Bool
is_heir h i = not (list_any (blocks h i) (started h))

-- whether a source can be read at that moment
abbrev pub can_read : Record → ℕ → ℕ → Bool
can_read h i now = is_sent h i && not (is_dry h i) && nat_le (reading_moment h i) now && is_heir h i

-- whether the instance's port is to be closed
abbrev pub is_close_due : Record → ℕ → Bool
is_close_due h i = device_at h i && not (is_closed h i) && is_done h i

-- whether a source has work
abbrev pub is_source_ready : Record → ℕ → ℕ → Bool
is_source_ready h i now = can_read h i now || is_confirm_due h i || is_close_due h i

-- whether a sink batch can be attempted at that moment
abbrev pub is_attempt_due : Record → ℕ → ℕ → Bool
is_attempt_due h i now = is_batch_closed h i now && nat_le (retry_from h i) now

-- whether a sink can take more parcels
abbrev pub can_take : Record → ℕ → ℕ → Bool
can_take h i now = not (is_batch_closed h i now) && not (is_empty (buffered h i))

-- whether a sink has work
abbrev pub is_sink_ready : Record → ℕ → ℕ → Bool
is_sink_ready h i now = is_attempt_due h i now || can_take h i now || is_close_due h i

-- whether a transform must be flushed
abbrev pub is_flush_due : Record → ℕ → Bool
is_flush_due h i = is_ending h i && is_empty (buffered h i) && not (is_empty (held h i))

-- whether a transform has work that doesn't wait for a moment
abbrev pub is_transform_ready : Record → ℕ → Bool
is_transform_ready h i = is_sent h i && (not (is_empty (buffered h i)) || is_flush_due h i)

-- whether a Lease at that moment finds work, apart from a tick
abbrev pub is_ready : Record → ℕ → ℕ → Bool
is_ready h i now =
    component_or false
    (λ (c : Component). elim c.class [ Source ↦ is_source_ready h i now | Transform ↦ is_transform_ready h i | Sink ↦ is_sink_ready h i now ])
    h i

-- the moment for which a source waits, where it may be read once it has rested
abbrev pub source_waits : Record → ℕ → Option ℕ
source_waits h i = if is_sent h i && not (is_dry h i) && is_heir h i then Some (reading_moment h i) else None

-- the moment for which a sink waits that holds something: its next attempt, or the end of its batch
abbrev pub sink_waits : Record → ℕ → Option ℕ
sink_waits h i =
    if is_empty (held h i)
    then None
    else Some (if is_full_batch h i || is_last_batch h i || was_attempted h i then retry_from h i else times_out h i)

-- the moment for which an instance waits, if it waits for one
abbrev pub waits_until : Record → ℕ → Option ℕ
waits_until h i =
    component_or None (λ (c : Component). elim c.class [ Source ↦ source_waits h i | Transform ↦ None | Sink ↦ sink_waits h i ]) h i

-- a transform with nothing to send is to act by itself
pub record IsTickReady (h : Record) (i now : ℕ) : Type 0 where
  pub sent : is_sent h i ≡ true
  pub due : IsTickDue h i now

-- a Lease at that moment finds work
abbrev pub IsReady : Record → ℕ → ℕ → Type 0
IsReady h i now = (is_ready h i now ≡ true) ⊎ IsTickReady h i now
