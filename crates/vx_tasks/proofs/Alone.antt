-- Instances that need no port, and what they do.
use Rattle.std.proofs.Common.{◌≡◌, ℕ, ◌-◌, ◌<◌, Bool, true, false, List, [], Option, Some, None, IfSome, refl, sym, ap, subst, ◌∙◌}
use Rattle.std.specs.Prelude.{IsSomeAnd, map, min}
use Rattle.vx_value.specs.Texts.{ByteString}
use Rattle.vx_value.specs.declared.event.Event.{Event}
use Rattle.vx_codec.specs.declared.codec.Codec.{Codec}
use Rattle.vx_demo.specs.declared.demo_settings.DemoSettings.{DemoSettings}
use Rattle.vx_plan.specs.declared.component.Component.{Component}
use Rattle.vx_plan.specs.declared.settings.Settings.{Settings}
use Rattle.vx_plan.specs.declared.settings.Settings.TheVariants as settings
use Rattle.vx_plan.specs.Options.{demo_of, encoding, has_device}
use Rattle.vx_record.specs.declared.taken.Taken.{Taken}
use Rattle.vx_record.specs.declared.taken.Taken.TheVariants as taken
use Rattle.vx_record.specs.Records.{Record}
use Rattle.vx_record.specs.Installs.{component_of, device_at}
use Rattle.vx_record.specs.Encoding.{bytes_for, encoded}
use Rattle.vx_record.specs.Generating.{generator_of, lines_given, lines_at_once, lines_from, IsGenerated, IsNextOf}
use Rattle.vx_record.specs.Parcels.{parcel_event}
use Rattle.vx_sourcecore.specs.Lines.{is_blackhole}
use Rattle.vx_sourcecore.specs.declared.source.Turned.{Turned}
use Rattle.vx_sourcecore.specs.declared.source.Turned.TheVariants as turned
use Rattle.vx_sourcecore.specs.Generators.{IsMade, IsNext}
use Rattle.vx_sourcecore.specs.Turns.{Reading, reading_of}
use Rattle.vx_tasks.specs.Out.{IsReadable}
use Rattle.vx_tasks.specs.declared.task.Role.{Role}
use Rattle.vx_tasks.specs.declared.task.Role.TheVariants as role
use Rattle.vx_tasks.specs.Unleased.{HasCome}
use Rattle.vx_tasks.specs.Jobs.{IsPortedAs}

-- WHO HAS A PORT
-- what writes by a codec has one
writes_device : (s : Settings) (codec : Codec) → encoding s ≡ Some codec → has_device s ≡ true
writes_device (settings.Console target how sink) codec is = refl
writes_device (settings.FileOut path compression how sink) codec is = refl
writes_device other codec is = cc

-- and a black hole has none, and no codec
blackhole_device : (s : Settings) → is_blackhole s ≡ true → has_device s ≡ false
blackhole_device (settings.Blackhole seconds sink) is = refl
blackhole_device other is = cc

blackhole_bytes : (s : Settings) (events : List Event) → is_blackhole s ≡ true → bytes_for s events ≡ []
blackhole_bytes (settings.Blackhole seconds sink) events is = refl
blackhole_bytes other events is = cc

by_component : (o : Option Component) (P : Component → Type 0) (b : Bool) → ((c : Component) → P c → has_device c.settings ≡ b) → IsSomeAnd o P →
    (elim o [ None ↦ false | Some c ↦ has_device c.settings ]) ≡ b
by_component None P b each is = absurd is
by_component (Some c) P b each is = each c is

pub come_ported : (h : Record) (i : ℕ) (r : Role) → HasCome h i r → IsPortedAs (device_at h i) r
come_ported h i (role.Source core) come = come.1
come_ported h i (role.Generator generator) come = come.1
come_ported h i (role.Sink codec) come =
    by_component (component_of h i) (λ (c : Component). encoding c.settings ≡ Some codec) true (λ c is. writes_device c.settings codec is) come
come_ported h i role.Blackhole come =
    by_component (component_of h i) (λ (c : Component). is_blackhole c.settings ≡ true) false (λ c is. blackhole_device c.settings is) come
come_ported h i (role.Transform picker) come = tt
come_ported h i role.Merge come = tt
come_ported h i role.Unfit come = tt

-- a black hole writes nothing
pub blackhole_all : (h : Record) (i : ℕ) (parcels : List (List ℕ)) → IsSomeAnd (component_of h i) (λ (c : Component). is_blackhole c.settings ≡ true) → encoded h i parcels ≡ []
blackhole_all h i parcels is = go (component_of h i) is
  where
    go : (o : Option Component) → IsSomeAnd o (λ (c : Component). is_blackhole c.settings ≡ true) →
        ◌≡◌ {A = ByteString} (elim o [ None ↦ [] | Some c ↦ bytes_for c.settings (map (parcel_event h) parcels) ]) []
    go None is = absurd is
    go (Some c) is = blackhole_bytes c.settings (map (parcel_event h) parcels) is

-- WHAT A SOURCE MAY GIVE
-- what has a port makes no lines
device_makes : (s : Settings) → has_device s ≡ true → demo_of s ≡ None
device_makes (settings.DemoLogs demo interval) is = cc
device_makes other is = refl

pub device_gives : (h : Record) (i stream : ℕ) (took : Taken) → device_at h i ≡ true → IsGenerated h i stream took
device_gives h i stream took device = λ demo of. go (component_of h i) demo device of
  where
    go : (o : Option Component) (demo : DemoSettings) → (elim o [ None ↦ false | Some c ↦ has_device c.settings ]) ≡ true →
        (elim o [ None ↦ None | Some c ↦ demo_of c.settings ]) ≡ Some demo → IsNextOf demo h i stream took
    go None demo device of = cc
    go (Some c) demo device of = let none = device_makes c.settings device in cc

-- what one record lets it give, another does that has the same lines of it
next_same : (old new : Record) (i stream : ℕ) (took : Taken) (demo : DemoSettings) → lines_given new i ≡ lines_given old i → lines_at_once new i ≡ lines_at_once old i →
    IsNextOf demo old i stream took → IsNextOf demo new i stream took
next_same old new i stream (taken.Bytes bytes) demo given most is = record {
  some = subst (λ n. 0 < demo.count - n) (sym given) is.some;
  of_stream = is.of_stream;
  lines = is.lines ∙ ap (λ n. lines_from demo n (min (lines_at_once old i) (demo.count - n))) (sym given)
      ∙ ap (λ m. lines_from demo (lines_given new i) (min m (demo.count - lines_given new i))) (sym most);
}
next_same old new i stream taken.StreamEnded demo given most is = is
next_same old new i stream taken.AllEnded demo given most is = record {
  none = ap (λ n. demo.count - n) given ∙ is.none;
  of_stream = is.of_stream;
}

pub generated_same : (old new : Record) (i stream : ℕ) (took : Taken) → generator_of new i ≡ generator_of old i → lines_given new i ≡ lines_given old i →
    lines_at_once new i ≡ lines_at_once old i → IsGenerated old i stream took → IsGenerated new i stream took
generated_same old new i stream took maker given most is = λ demo of. next_same old new i stream took demo given most (is demo (sym maker ∙ of))

-- what was made is read
pub made_reads : (took : Turned) → IsMade took → reading_of took ≡ None → ⊥
made_reads (turned.Lines stream n room cut) made none = cc
made_reads (turned.AllEnded stream cut) made none = cc
made_reads (turned.StreamEnded stream cut) made none = made
made_reads turned.Idle made none = made
made_reads (turned.Failed at_start) made none = made

pub next_readable : (h : Record) (i : ℕ) (took : Turned) → IsNext h i took → IsReadable h i took
next_readable h i took next = go (reading_of took) next
  where
    go : (o : Option Reading) → IsSomeAnd o (λ (reading : Reading). IsGenerated h i reading.stream reading.took) →
        IfSome o (λ (reading : Reading). IsGenerated h i reading.stream reading.took)
    go None is = absurd is
    go (Some reading) is = is

-- what a port gave may be read of an instance that has one
pub device_reads : (h : Record) (i : ℕ) (took : Turned) → device_at h i ≡ true → IsReadable h i took
device_reads h i took device = go (reading_of took)
  where
    go : (o : Option Reading) → IfSome o (λ (reading : Reading). IsGenerated h i reading.stream reading.took)
    go None = tt
    go (Some reading) = device_gives h i reading.stream reading.took device
