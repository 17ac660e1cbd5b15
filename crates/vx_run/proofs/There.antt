-- A port that tells what the record has of an instance with a device is there.
use Rattle.std.proofs.Common.{◌≡◌, ℕ, Bool, true, false, List, [], ◌∷◌, Option, Some, None, IsSome, refl}
use Rattle.vx_ends.specs.Silent.{observed_if}
use Rattle.vx_ends.specs.Observation.{Observation, Fits, absent}
use Rattle.vx_ends.specs.declared.port_spec.Form.{Form}
use Rattle.vx_value.specs.Texts.{ByteString}
use Rattle.vx_plan.specs.declared.component.Component.{Component}
use Rattle.vx_plan.specs.declared.settings.Settings.{Settings}
use Rattle.vx_plan.specs.declared.settings.Settings.TheVariants as settings
use Rattle.vx_plan.specs.Components.{component_named}
use Rattle.vx_plan.specs.Options.{has_device}
use Rattle.vx_plan.specs.Ports.{checkpoint_path, form_of, port_of}
use Rattle.vx_record.specs.Records.{Record}
use Rattle.vx_record.specs.Installs.{Wiring, wiring, device_at}
use Rattle.vx_tasks.specs.Observing.{IsObservedButGiven, spec_by}
use Rattle.vx_hub.specs.declared.parts.Numbered.{Numbered}
use Rattle.vx_hub.specs.Remains.{AreObservedButGiven}
use Rattle.vx_run.specs.Running.{AreThere}

-- what has a device needs a port of some form
device_form : (once : Bool) (checkpoint : ByteString) (s : Settings) → has_device s ≡ true → IsSome (form_of once checkpoint s)
device_form once checkpoint (settings.Stdin max_length codec) is = refl
device_form once checkpoint (settings.FileIn most path from codec) is = refl
device_form once checkpoint (settings.Console target codec sink) is = refl
device_form once checkpoint (settings.FileOut path compression codec sink) is = refl
device_form once checkpoint other is = cc

not_absent : (name : ByteString) (form : Option Form) → IsSome form → Fits (elim form [ None ↦ None | Some f ↦ Some (record { name = name; form = f }) ]) absent → ⊥
not_absent name None is fits = cc
not_absent name (Some f) is fits = fits

-- so no port can be absent that a component needs
needed : (once : Bool) (folder : ByteString) (o : Option Component) → (elim o [ None ↦ false | Some c ↦ has_device c.settings ]) ≡ true →
    Fits (elim o [ None ↦ None | Some c ↦ port_of once folder c ]) absent → ⊥
needed once folder None is fits = cc
needed once folder (Some c) is fits =
    let checkpoint = checkpoint_path folder c.name in not_absent c.name (form_of once checkpoint c.settings) (device_form once checkpoint c.settings is) fits

device_there : (o : Option Wiring) →
    (elim (elim o as (λ _. Option Component) [ None ↦ None | Some w ↦ component_named w.plan w.name ]) [ None ↦ false | Some c ↦ has_device c.settings ]) ≡ true →
    Fits (spec_by o) absent → ⊥
device_there None is fits = cc
device_there (Some w) is fits = needed w.once w.plan.global.data_dir (component_named w.plan w.name) is fits

module _ {P : Type 0} (observe : P → Observation) (h : Record) where
  one_there : (i : ℕ) (port : Option P) → IsObservedButGiven (observed_if observe port) h i → device_at h i ≡ true → IsSome port
  one_there i None observed device = absurd (device_there (wiring h i) device observed.spec)
  one_there i (Some port) observed device = refl

  -- so it is for each of some
  pub there_of : (ports : List (Numbered (Option P))) → AreObservedButGiven (observed_if observe) h ports → AreThere h ports
  there_of [] observed = tt
  there_of (n ∷ ns) observed = (one_there n.instance n.port observed.0, there_of ns observed.1)
