-- Transforms that answer all that they took at once: those that join parcels, and keep some from one answer to the next, and those that a
-- program hands in.
use Rattle.std.specs.Prelude.{ℕ, Bool, true, false, ◌&&◌}
use Rattle.vx_plan.specs.declared.component.Component.{Component}
use Rattle.vx_plan.specs.declared.settings.Settings.{Settings}
use Rattle.vx_plan.specs.declared.settings.Settings.TheVariants.{Reduce, Host}
use Rattle.vx_plan.specs.Components.{is_transform}
use Rattle.vx_record.specs.Records.{Record}
use Rattle.vx_record.specs.Installs.{component_or}

-- whether a component of these settings joins
abbrev pub is_joining : Settings → Bool
is_joining (Reduce group_by starts_when ends_when expire flush strategies) = true
is_joining Host = true
is_joining other = false

-- whether the instance is a transform that does
abbrev pub joins_at : Record → ℕ → Bool
joins_at = component_or false (λ (c : Component). is_transform c && is_joining c.settings)
