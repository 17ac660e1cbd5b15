-- The rule of an instance, and what the settings of its reduce mean.
use Rattle.std.proofs.Common.{◌≡◌, ℕ, true, false, Option, Some, None, List, [], ◌∷◌, ◌++◌, length, drop, refl, sym, ap, ◌∙◌, subst}
use Rattle.vx_value.specs.Texts.{ByteString}
use Rattle.vx_condition.specs.Steps.{Test}
use Rattle.vx_condition.specs.Reducing.{Settings}
use Rattle.vx_plan.specs.declared.component.Component.{Component}
use Rattle.vx_plan.specs.declared.settings.Settings.{Settings as Options}
use Rattle.vx_plan.specs.declared.settings.Settings.TheVariants as settings
use Rattle.vx_plan.specs.Components.{is_transform}
use Rattle.vx_plan.specs.Options.{if_any, conditions_of}
use Rattle.vx_record.specs.Records.{Record}
use Rattle.vx_record.specs.Installs.{transform_at}
use Rattle.vx_record.specs.Transforms.{Rule, reduces, is_free, rule_of, test_of, AllMean, RunsBy}
use Rattle.vx_record.proofs.Rules.{some_is, rule_is, mean_is}
use Rattle.vx_reduce.specs.declared.reduce_settings.ReduceSettings.{ReduceSettings}
use Rattle.vx_reduce.specs.Standing.{IsTestOf, AreMeant}
use Rattle.vx_keeping.specs.Keeping.{RunsWith, RunsHost}
use Rattle.vx_keeping.specs.Answers.{Reduces}

-- the options that some settings are
abbrev options : ReduceSettings → Options
options s = settings.Reduce s.group_by s.starts_when s.ends_when s.expire_after_ms s.flush_period_ms s.strategies

-- the rule that they are, with the tests of the conditions
abbrev rule_with : ReduceSettings → List Test → Settings
rule_with s tests = record {
  group_by = s.group_by;
  starts_when = test_of s.starts_when (drop (length (if_any s.ends_when)) tests);
  ends_when = test_of s.ends_when tests;
  expire_after_ms = s.expire_after_ms;
  flush_period_ms = s.flush_period_ms;
  strategies = s.strategies;
}

reducing_of : Settings → Rule → Settings
reducing_of other (reduces s) = s
reducing_of other rule = other

reduces_is : (a b : Settings) → reduces a ≡ reduces b → a ≡ b
unfolding reducing_of
reduces_is a b e = ap (reducing_of a) e

-- TESTS
ends_meant : (ends_when starts_when : Option ByteString) (tests : List Test) → AllMean (if_any ends_when ++ if_any starts_when) tests → IsTestOf ends_when (test_of ends_when tests)
ends_meant None starts_when tests mean = λ e. refl
ends_meant (Some text) starts_when [] mean = absurd mean
ends_meant (Some text) starts_when (test ∷ rest) mean = λ e. mean.0 e

first_meant : (condition : Option ByteString) (tests : List Test) → AllMean (if_any condition) tests → IsTestOf condition (test_of condition tests)
first_meant None tests mean = λ e. refl
first_meant (Some text) [] mean = absurd mean
first_meant (Some text) (test ∷ rest) mean = λ e. mean.0 e

starts_meant : (ends_when starts_when : Option ByteString) (tests : List Test) → AllMean (if_any ends_when ++ if_any starts_when) tests →
    IsTestOf starts_when (test_of starts_when (drop (length (if_any ends_when)) tests))
starts_meant None starts_when tests mean = first_meant starts_when tests mean
starts_meant (Some text) starts_when [] mean = absurd mean
starts_meant (Some text) starts_when (test ∷ rest) mean = first_meant starts_when rest mean.1

-- what a rule's settings mean
with_meant : (s : ReduceSettings) (tests : List Test) → AllMean (if_any s.ends_when ++ if_any s.starts_when) tests → AreMeant (rule_with s tests) s
with_meant s tests mean = record {
  group_by = refl;
  starts = starts_meant s.ends_when s.starts_when tests mean;
  ends = ends_meant s.ends_when s.starts_when tests mean;
  expire = refl;
  period = refl;
  strategies = refl;
}

pub settings_mean : (h : Record) (i : ℕ) (s : Settings) (settings : ReduceSettings) → RunsWith h i settings → RunsBy h i (reduces s) → AreMeant s settings
settings_mean h i s settings runs follows =
    let ruled : Some (reduces (rule_with settings follows.tests)) ≡ Some (reduces s) =
    ap (λ (o : Options). rule_of o follows.tests) (sym runs.set) ∙ rule_is h i (reduces s) runs.component follows runs.runs in
    let same : rule_with settings follows.tests ≡ s = reduces_is (rule_with settings follows.tests) s (some_is _ _ ruled) in
    let mean : AllMean (conditions_of (options settings)) follows.tests = subst (λ (o : Options). AllMean (conditions_of o) follows.tests) runs.set (mean_is h i (reduces s) runs.component follows runs.runs) in
    subst (λ (x : Settings). AreMeant x settings) same (with_meant settings follows.tests mean)

-- THE RULE
-- tests that some conditions have
tests_for : Option ByteString → Test → List Test → List Test
tests_for None test rest = rest
tests_for (Some text) test rest = test ∷ rest

one_means : (condition : Option ByteString) (test : Test) → IsTestOf condition test → AllMean (if_any condition) (tests_for condition test [])
unfolding tests_for
one_means None test is = tt
one_means (Some text) test is = (is, tt)

both_mean : (ends_when starts_when : Option ByteString) (s : Settings) → IsTestOf ends_when s.ends_when → IsTestOf starts_when s.starts_when →
    AllMean (if_any ends_when ++ if_any starts_when) (tests_for ends_when s.ends_when (tests_for starts_when s.starts_when []))
unfolding tests_for
both_mean None starts_when s ends starts = one_means starts_when s.starts_when starts
both_mean (Some text) starts_when s ends starts = (ends, one_means starts_when s.starts_when starts)

-- where its settings mean something, the instance runs by a rule that reduces
pub rule_there : (h : Record) (i : ℕ) (s : Settings) (settings : ReduceSettings) → RunsWith h i settings → AreMeant s settings → Reduces h i
rule_there h i s settings runs meant =
    let tests = tests_for settings.ends_when s.ends_when (tests_for settings.starts_when s.starts_when []) in (
      rule_with settings tests,
      record {
        component = runs.component;
        runs = runs.runs;
        transform = runs.transform;
        tests = tests;
        mean = subst (λ (o : Options). AllMean (conditions_of o) tests) (sym runs.set) (both_mean settings.ends_when settings.starts_when s meant.ends meant.starts);
        ruled = ap (λ (o : Options). rule_of o tests) runs.set;
      },
    )

-- it is a transform
pub with_transforms : (h : Record) (i : ℕ) (settings : ReduceSettings) → RunsWith h i settings → transform_at h i ≡ true
with_transforms h i settings runs = ap (λ (o : Option Component). elim o [ None ↦ false | Some c ↦ is_transform c ]) runs.runs ∙ runs.transform

-- each rule by which it runs reduces
pub reducing_rule : (h : Record) (i : ℕ) (settings : ReduceSettings) (rule : Rule) → RunsWith h i settings → RunsBy h i rule → (s : Settings) × (rule ≡ reduces s)
reducing_rule h i settings rule runs follows =
    let ruled : Some (reduces (rule_with settings follows.tests)) ≡ Some rule =
    ap (λ (o : Options). rule_of o follows.tests) (sym runs.set) ∙ rule_is h i rule runs.component follows runs.runs in
    (rule_with settings follows.tests, sym (some_is _ _ ruled))

-- A HOST
-- the instance that runs one runs by the rule that is free
pub host_rule : (h : Record) (i : ℕ) → RunsHost h i → RunsBy h i is_free
host_rule h i runs = record {
  component = runs.component;
  runs = runs.runs;
  transform = runs.transform;
  tests = [];
  mean = subst (λ (o : Options). AllMean (conditions_of o) []) (sym runs.set) tt;
  ruled = ap (λ (o : Options). rule_of o []) runs.set;
}

-- and by no other
pub free_rule : (h : Record) (i : ℕ) (rule : Rule) → RunsHost h i → RunsBy h i rule → rule ≡ is_free
free_rule h i rule runs follows =
    let ruled : Some is_free ≡ Some rule = ap (λ (o : Options). rule_of o follows.tests) (sym runs.set) ∙ rule_is h i rule runs.component follows runs.runs in
    sym (some_is _ _ ruled)

reducing_not_free : (s : Settings) → reduces s ≡ is_free → ⊥
reducing_not_free s is = cc

pub host_not_reduces : (h : Record) (i : ℕ) → RunsHost h i → Reduces h i → ⊥
host_not_reduces h i runs rule = reducing_not_free rule.0 (free_rule h i (reduces rule.0) runs rule.1)

pub host_transforms : (h : Record) (i : ℕ) → RunsHost h i → transform_at h i ≡ true
host_transforms h i runs = ap (λ (o : Option Component). elim o [ None ↦ false | Some c ↦ is_transform c ]) runs.runs ∙ runs.transform
