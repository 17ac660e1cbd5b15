-- Who comes back from judging, and by which rule it judges.
use Rattle.std.proofs.Common.{◌≡◌, ℕ, Bool, true, false, List, [], ◌∷◌, Option, Some, None, refl, subst}
use Rattle.std.specs.Prelude.{◌&&◌, IsSomeAnd, find, if◌then◌else◌}
use Rattle.std.specs.List.{list_all}
use Rattle.std.proofs.lemmas.Bool.{and_parts, and_from}
use Rattle.vx_value.specs.Texts.{ByteString, same_text}
use Rattle.vx_codec.specs.declared.codec.Codec.{Codec}
use Rattle.vx_codec.specs.declared.decoding.Decoding.{Decoding}
use Rattle.vx_condition.specs.Steps.{Test}
use Rattle.vx_condition.specs.Picking.{filter_passes, route_ports, sample_passes, dedupe_passes}
use Rattle.vx_plan.specs.declared.class.Class.{Class}
use Rattle.vx_plan.specs.declared.class.Class.TheVariants.{Source, Transform, Sink}
use Rattle.vx_plan.specs.declared.component.Component.{Component}
use Rattle.vx_plan.specs.declared.settings.Settings.{Settings}
use Rattle.vx_plan.specs.declared.settings.Settings.TheVariants as settings
use Rattle.vx_plan.specs.Accepted.{settings_class, same_class, fits_class}
use Rattle.vx_plan.specs.Components.{component_named, is_transform}
use Rattle.vx_plan.specs.Options.{conditions_of, decoding, encoding}
use Rattle.vx_pick.specs.Picks.{AreMeant, Picks}
use Rattle.vx_pick.specs.declared.picker.Picker.{Picker}
use Rattle.vx_record.specs.declared.entry.Entry.TheVariants.{Install}
use Rattle.vx_record.specs.Records.{Record}
use Rattle.vx_record.specs.Installs.{Wiring, wiring, name_at, component_of, transform_at}
use Rattle.vx_record.specs.Transforms.{Rule, Judge, judges, passing, test_of, rule_of, RunsBy, IsDue}
use Rattle.vx_record.specs.Answering.{MayTick}
use Rattle.vx_record.specs.Legal.{IsLegal}
use Rattle.vx_record.specs.Judges.{is_judging, judge_at}
use Rattle.vx_record.proofs.Judged.{judge_rule}
use Rattle.vx_sourcecore.specs.Abreast.{IsMadeFor}
use Rattle.vx_sourcecore.specs.declared.source.SourceCore.{SourceCore}
use Rattle.vx_sourcecore.specs.declared.generator.Generator.{Generator}
use Rattle.vx_sourcecore.specs.Lines.{is_blackhole}
use Rattle.vx_tasks.specs.declared.task.Role.{Role}
use Rattle.vx_tasks.specs.declared.task.Role.TheVariants as role
use Rattle.vx_tasks.specs.Unleased.{HasCome}
use Rattle.vx_tasks.specs.Out.{is_unfit}

-- THE CLASS OF A COMPONENT
-- what is found among components that all pass a test passes it
found_passes : (test pass : Component → Bool) (all : List Component) (c : Component) → list_all pass all ≡ true →
    find test all ≡ Some c → pass c ≡ true
found_passes test pass [] c each at = cc
found_passes test pass (d ∷ rest) c each at = go (test d) at (found_passes test pass rest c both.1)
  where
    both : (pass d ≡ true) × (list_all pass rest ≡ true)
    both = and_parts (pass d) (list_all pass rest) each

    go : (b : Bool) → (if b then Some d else find test rest) ≡ Some c → (find test rest ≡ Some c → pass c ≡ true) → pass c ≡ true
    go true is later = let same : d ≡ c = cc in subst (λ (x : Component). pass x ≡ true) same both.0
    go false is later = later is

-- what a wiring runs
abbrev run_by : Option Wiring → Option Component
run_by o = elim o [ None ↦ None | Some w ↦ component_named w.plan w.name ]

-- each instance runs a component with options of its class
fits : (h : Record) (i : ℕ) (c : Component) → IsLegal h → component_of h i ≡ Some c → fits_class c ≡ true
fits [] i c legal runs = cc
fits (Install version plan once instances now ∷ h) i c legal runs = go (name_at instances i) runs (fits h i c legal.1)
  where
    go : (o : Option ByteString) →
        run_by (elim o [ None ↦ wiring h i | Some name ↦ Some (record { plan = plan; once = once; instances = instances; name = name }) ]) ≡ Some c →
        (component_of h i ≡ Some c → fits_class c ≡ true) → fits_class c ≡ true
    go None is before = before is
    go (Some name) is before =
        found_passes (λ (d : Component). same_text d.name name) fits_class plan.components c legal.0.row.accepted.fitting is
fits (e ∷ h) i c legal runs = fits h i c legal.1 runs

-- the class of what is a transform
transform_class : (k l : Class) → same_class k l ≡ true → (elim l [ Source ↦ false | Transform ↦ true | Sink ↦ false ]) ≡ true →
    k ≡ Transform
transform_class Transform l same is = refl
transform_class k Source same is = cc
transform_class k Sink same is = cc
transform_class k Transform same is = cc

by_class : (c : Component) → fits_class c ≡ true → is_transform c ≡ true → settings_class c.settings ≡ Transform
by_class c fit is =
    transform_class (settings_class c.settings) c.class (and_parts (same_class (settings_class c.settings) c.class) _ fit).0 is

-- WHO JUDGES
-- a transform neither decodes nor encodes
decodes_none : (s : Settings) (how : Decoding) → settings_class s ≡ Transform → decoding s ≡ Some how → ⊥
decodes_none (settings.Stdin max_length codec) how of is = cc
decodes_none (settings.FileIn most path from codec) how of is = cc
decodes_none (settings.DemoLogs demo interval) how of is = cc
decodes_none other how of is = cc

encodes_none : (s : Settings) (codec : Codec) → settings_class s ≡ Transform → encoding s ≡ Some codec → ⊥
encodes_none (settings.Console target how sink) codec of is = cc
encodes_none (settings.FileOut path compression how sink) codec of is = cc
encodes_none other codec of is = cc

-- nor is it a black hole
blackhole_none : (s : Settings) → settings_class s ≡ Transform → is_blackhole s ≡ true → ⊥
blackhole_none (settings.Blackhole seconds sink) of is = cc
blackhole_none other of is = cc

-- and one that picks judges
picker_judges : (s : Settings) (picker : Picker) → Picks s picker → is_judging s ≡ true
picker_judges (settings.Filter condition) picker picks = refl
picker_judges (settings.Route routes reroute) picker picks = refl
picker_judges (settings.Sample rate exclude) picker picks = refl
picker_judges (settings.Dedupe fields most) picker picks = refl
picker_judges other picker picks = absurd picks

module _ (h : Record) (i : ℕ) (legal : IsLegal h) (transform : transform_at h i ≡ true) where
  judges_by : (P : Component → Type 0) →
      ((c : Component) → settings_class c.settings ≡ Transform → P c → is_judging c.settings ≡ true) →
      IsSomeAnd (component_of h i) P → judge_at h i ≡ true
  judges_by P each is = go (component_of h i) (λ c runs. fits h i c legal runs) is transform
    where
      go : (o : Option Component) → ((c : Component) → o ≡ Some c → fits_class c ≡ true) → IsSomeAnd o P →
          (elim o [ None ↦ false | Some c ↦ is_transform c ]) ≡ true →
          (elim o [ None ↦ false | Some c ↦ is_transform c && is_judging c.settings ]) ≡ true
      go None fit p t = absurd p
      go (Some c) fit p t = and_from (is_transform c) (is_judging c.settings) t (each c (by_class c (fit c refl) t) p)

  refutes : (P : Component → Type 0) → ((c : Component) → settings_class c.settings ≡ Transform → P c → ⊥) → IsSomeAnd (component_of h i) P → ⊥
  refutes P none is = go (component_of h i) (λ c runs. fits h i c legal runs) is transform
    where
      go : (o : Option Component) → ((c : Component) → o ≡ Some c → fits_class c ≡ true) → IsSomeAnd o P →
          (elim o [ None ↦ false | Some c ↦ is_transform c ]) ≡ true → ⊥
      go None fit p t = absurd p
      go (Some c) fit p t = none c (by_class c (fit c refl) t) p

  -- so it isn't what a source or a sink does
  pub no_source : (core : SourceCore) → HasCome h i (role.Source core) → ⊥
  no_source core is =
      refutes (λ (c : Component). IsMadeFor c.settings core) (λ c of made. decodes_none c.settings core.decoding of made.decoding_is) is.0.made_for

  pub no_generator : (generator : Generator) → HasCome h i (role.Generator generator) → ⊥
  no_generator generator is =
      refutes (λ (c : Component). IsMadeFor c.settings generator.core) (λ c of made. decodes_none c.settings generator.core.decoding of made.decoding_is) is.0.abreast.made_for

  pub no_blackhole : HasCome h i role.Blackhole → ⊥
  no_blackhole is = refutes (λ (c : Component). is_blackhole c.settings ≡ true) (λ c of blackhole. blackhole_none c.settings of blackhole) is

  pub no_sink : (codec : Codec) → HasCome h i (role.Sink codec) → ⊥
  no_sink codec is =
      refutes (λ (c : Component). encoding c.settings ≡ Some codec) (λ c of writes. encodes_none c.settings codec of writes) is

  pub come_judges : (r : Role) → is_unfit r ≡ false → HasCome h i r → judge_at h i ≡ true
  come_judges (role.Source core) fit is = absurd (no_source core is)
  come_judges (role.Generator generator) fit is = absurd (no_generator generator is)
  come_judges (role.Sink codec) fit is = absurd (no_sink codec is)
  come_judges role.Blackhole fit is = absurd (no_blackhole is)
  come_judges (role.Transform picker) fit is =
      judges_by (λ (c : Component). Picks c.settings picker) (λ c of picks. picker_judges c.settings picker picks) is
  come_judges role.Merge fit is = cc
  come_judges role.Unfit fit is = cc

-- a judge has a rule
judging : (s : Settings) (tests : List Test) → is_judging s ≡ true → (judge : Judge) × (rule_of s tests ≡ Some (judges judge))
judging (settings.Filter condition) tests is = (passing (filter_passes (test_of (Some condition) tests)), refl)
judging (settings.Route routes reroute) tests is = ((λ earlier. route_ports tests reroute), refl)
judging (settings.Sample rate exclude) tests is = (passing (sample_passes rate (test_of exclude tests)), refl)
judging (settings.Dedupe fields most) tests is = (passing (dedupe_passes most fields), refl)
judging other tests is = cc

-- by which it runs where its conditions mean something
pub runs_by : (h : Record) (i : ℕ) → judge_at h i ≡ true →
    IsSomeAnd (component_of h i) (λ (c : Component). AreMeant (conditions_of c.settings)) → (judge : Judge) × RunsBy h i (judges judge)
runs_by h i judge meant = go (component_of h i) refl judge meant
  where
    go : (o : Option Component) → component_of h i ≡ o →
        (elim o [ None ↦ false | Some c ↦ is_transform c && is_judging c.settings ]) ≡ true →
        IsSomeAnd o (λ (c : Component). AreMeant (conditions_of c.settings)) → (judge : Judge) × RunsBy h i (judges judge)
    go None runs is tests = absurd tests
    go (Some c) runs is tests =
        let both = and_parts (is_transform c) (is_judging c.settings) is in
        let rule = judging c.settings tests.0 both.1 in
        (rule.0, record { component = c; runs = runs; transform = both.0; tests = tests.0; mean = tests.1; ruled = rule.1 })

-- no judge ticks
pub unticked : (h : Record) (i now : ℕ) → judge_at h i ≡ true → MayTick h i now → ⊥
unticked h i now judge row =
    let ruled = judge_rule h i row.due.rule judge row.due.follows in
    subst (λ (rule : Rule). IsDue rule _ now) ruled.1 row.due.reached
