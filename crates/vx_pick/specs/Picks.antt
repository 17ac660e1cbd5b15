-- What transforms that judge events do, by the settings of their components and by the events that came before.
use Rattle.std.specs.Prelude.{◌≡◌, ℕ, List, Some, map}
use Rattle.vx_value.specs.Texts.{ByteString}
use Rattle.vx_value.specs.declared.event.Event.{Event}
use Rattle.vx_condition.specs.Steps.{Test}
use Rattle.vx_plan.specs.declared.route.Route.{Route as Way}
use Rattle.vx_plan.specs.declared.settings.Settings.{Settings}
use Rattle.vx_plan.specs.declared.settings.Settings.TheVariants as settings
use Rattle.vx_plan.specs.Options.{conditions_of}
use Rattle.vx_record.specs.Transforms.{AllMean, Judge, judges, rule_of, port_bits}
use Rattle.vx_pick.specs.declared.picker.Picker.{Picker}
use Rattle.vx_pick.specs.declared.picker.Picker.TheVariants as picker
use Rattle.vx_pick.specs.Samplers.{HasCounted}
use Rattle.vx_pick.specs.Dedupers.{HasSeen}

-- some texts are conditions: each has a test that says of each event what it does
abbrev pub AreMeant : List ByteString → Type 0
AreMeant texts = (tests : List Test) × AllMean texts tests

-- settings are what a transform does: its conditions are theirs, and with what no condition accepts, at which rate it samples, and how
-- it tells repeats, it does as they say
abbrev pub Picks : Settings → Picker → Type 0
Picks (settings.Filter condition) (picker.Filter text) = text ≡ condition
Picks (settings.Route routes reroute) (picker.Route ways) =
    (ways.conditions ≡ map (λ (way : Way). way.condition) routes) × (ways.reroute ≡ reroute)
Picks (settings.Sample rate exclude) (picker.Sample sampler) = (sampler.rate ≡ rate) × (sampler.exclude ≡ exclude)
Picks (settings.Dedupe fields most) (picker.Dedupe deduper) = (deduper.by ≡ fields) × (deduper.most ≡ most)
Picks other does = ⊥

-- a transform saw these events: what it keeps stands for them. One that judges each event by itself keeps nothing
abbrev pub StandsFor : Picker → List Event → Type 0
StandsFor (picker.Filter text) earlier = Unit {0}
StandsFor (picker.Route ways) earlier = Unit {0}
StandsFor (picker.Sample sampler) earlier = HasCounted sampler earlier
StandsFor (picker.Dedupe deduper) earlier = HasSeen deduper earlier

-- the ports on which an event is put out behind others are those that settings say, by whatever tests their conditions mean
abbrev pub ArePicked : Settings → List Event → Event → ℕ → Type 0
ArePicked s earlier event ports =
    (tests : List Test) (judge : Judge) → AllMean (conditions_of s) tests → rule_of s tests ≡ Some (judges judge) →
    ports ≡ port_bits (judge earlier event)
