-- What settings say of an event is what a transform does that they are.
use Rattle.std.proofs.Common.{◌≡◌, ℕ, Bool, List, [], ◌∷◌, Option, Some, sym, ap, ◌∙◌, subst}
use Rattle.vx_value.specs.Texts.{ByteString}
use Rattle.vx_value.specs.declared.event.Event.{Event}
use Rattle.vx_condition.specs.Steps.{Test}
use Rattle.vx_condition.specs.Picking.{filter_passes, route_ports, sample_passes, dedupe_passes}
use Rattle.vx_plan.specs.declared.settings.Settings.{Settings}
use Rattle.vx_plan.specs.declared.settings.Settings.TheVariants as settings
use Rattle.vx_plan.specs.Options.{if_any, conditions_of}
use Rattle.vx_record.specs.Transforms.{Means, AllMean, Judge, judges, passing, test_of, port_bits}
use Rattle.vx_pick.specs.Routes.{Ways}
use Rattle.vx_pick.specs.Picks.{Picks, AreMeant, ArePicked}
use Rattle.vx_pick.specs.Samplers.{Sampler}
use Rattle.vx_pick.specs.Dedupers.{Deduper}
use Rattle.vx_pick.specs.declared.picker.Picker.TheVariants as picker

judge_is : (a b : Judge) → Some (judges a) ≡ Some (judges b) → a ≡ b
judge_is a b same = cc

module _ (earlier : List Event) (event : Event) (ports : ℕ) where
  pub filter_picked : (text : ByteString) → ((test : Test) (before : List Event) → Means text test → ports ≡ port_bits (passing (filter_passes test) before event)) →
      (s : Settings) → Picks s (picker.Filter text) → ArePicked s earlier event ports
  filter_picked text said (settings.Filter condition) same tests judge mean rule = go tests mean rule
    where
      go : (tests : List Test) → AllMean (condition ∷ []) tests → Some (judges (passing (filter_passes (test_of (Some condition) tests)))) ≡ Some (judges judge) → ports ≡ port_bits (judge earlier event)
      go [] m r = absurd m
      go (test ∷ rest) m r =
          said test earlier (subst (λ (w : ByteString). Means w test) (sym same) m.0) ∙ ap (λ (j : Judge). port_bits (j earlier event)) (judge_is (passing (filter_passes test)) judge r)
  filter_picked text said other picks tests judge mean rule = absurd picks

  pub route_picked : (ways : Ways) → ((tests : List Test) → AllMean ways.conditions tests → ports ≡ port_bits (route_ports tests ways.reroute event)) →
      (s : Settings) → Picks s (picker.Route ways) → ArePicked s earlier event ports
  route_picked ways said (settings.Route routes reroute) same tests judge mean rule =
      said tests (subst (λ (texts : List ByteString). AllMean texts tests) (sym same.0) mean)
      ∙ ap (λ (b : Bool). port_bits (route_ports tests b event)) same.1
      ∙ ap (λ (j : Judge). port_bits (j earlier event)) (judge_is (λ before. route_ports tests reroute) judge rule)
  route_picked ways said other picks tests judge mean rule = absurd picks

  pub sample_picked : (sampler : Sampler) →
      ((tests : List Test) → AllMean (if_any sampler.exclude) tests →
      ports ≡ port_bits (passing (sample_passes sampler.rate (test_of sampler.exclude tests)) earlier event)) →
      (s : Settings) → Picks s (picker.Sample sampler) → ArePicked s earlier event ports
  sample_picked sampler said (settings.Sample rate exclude) same tests judge mean rule =
      said tests (subst (λ (x : Option ByteString). AllMean (if_any x) tests) (sym same.1) mean)
      ∙ (λ i. port_bits (passing (sample_passes (same.0 i) (test_of (same.1 i) tests)) earlier event))
      ∙ ap (λ (j : Judge). port_bits (j earlier event)) (judge_is (passing (sample_passes rate (test_of exclude tests))) judge rule)
  sample_picked sampler said other picks tests judge mean rule = absurd picks

  pub dedupe_picked : (deduper : Deduper) → ports ≡ port_bits (passing (dedupe_passes deduper.most deduper.by) earlier event) →
      (s : Settings) → Picks s (picker.Dedupe deduper) → ArePicked s earlier event ports
  dedupe_picked deduper said (settings.Dedupe fields most) same tests judge mean rule =
      said ∙ (λ i. port_bits (passing (dedupe_passes (same.1 i) (same.0 i)) earlier event))
      ∙ ap (λ (j : Judge). port_bits (j earlier event)) (judge_is (passing (dedupe_passes most fields)) judge rule)
  dedupe_picked deduper said other picks tests judge mean rule = absurd picks

-- and the conditions of settings mean something where those of what they are do
pub filter_meant : (text : ByteString) → AreMeant (text ∷ []) → (s : Settings) → Picks s (picker.Filter text) → AreMeant (conditions_of s)
filter_meant text are (settings.Filter condition) same = subst (λ (w : ByteString). AreMeant (w ∷ [])) same are
filter_meant text are other picks = absurd picks

pub route_meant : (ways : Ways) → AreMeant ways.conditions → (s : Settings) → Picks s (picker.Route ways) → AreMeant (conditions_of s)
route_meant ways are (settings.Route routes reroute) same = subst AreMeant same.0 are
route_meant ways are other picks = absurd picks

pub sample_meant : (sampler : Sampler) → AreMeant (if_any sampler.exclude) → (s : Settings) → Picks s (picker.Sample sampler) → AreMeant (conditions_of s)
sample_meant sampler are (settings.Sample rate exclude) same = subst (λ (x : Option ByteString). AreMeant (if_any x)) same.1 are
sample_meant sampler are other picks = absurd picks

pub dedupe_meant : (deduper : Deduper) (s : Settings) → Picks s (picker.Dedupe deduper) → AreMeant (conditions_of s)
dedupe_meant deduper (settings.Dedupe fields most) same = ([], tt)
dedupe_meant deduper other picks = absurd picks

-- settings stay what a transform does whose settings stay
pub sample_picks : (old new : Sampler) → new.rate ≡ old.rate → new.exclude ≡ old.exclude →
    (s : Settings) → Picks s (picker.Sample old) → Picks s (picker.Sample new)
sample_picks old new rate exclude (settings.Sample r x) same = (rate ∙ same.0, exclude ∙ same.1)
sample_picks old new rate exclude other picks = absurd picks

pub dedupe_picks : (old new : Deduper) → new.by ≡ old.by → new.most ≡ old.most →
    (s : Settings) → Picks s (picker.Dedupe old) → Picks s (picker.Dedupe new)
dedupe_picks old new by most (settings.Dedupe f m) same = (by ∙ same.0, most ∙ same.1)
dedupe_picks old new by most other picks = absurd picks
