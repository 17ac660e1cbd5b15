-- By which rule an instance's component has it answer.
use Rattle.std.proofs.Common.{◌≡◌, ℕ, Option, Some, ap, sym, ◌∙◌, subst, unwrap_or}
use Rattle.vx_plan.specs.declared.component.Component.{Component}
use Rattle.vx_plan.specs.Options.{conditions_of}
use Rattle.vx_record.specs.Records.{Record}
use Rattle.vx_record.specs.Installs.{component_of}
use Rattle.vx_record.specs.Transforms.{Rule, rule_of, AllMean, RunsBy}

pub some_is : {X : Type 0} (x y : X) → Some x ≡ Some y → x ≡ y
some_is {X = X} x y e = ap (λ (o : Option X). unwrap_or o x) e

-- the rule is the one of the settings, with the tests
pub rule_is : (h : Record) (i : ℕ) (rule : Rule) (c : Component) (follows : RunsBy h i rule) → component_of h i ≡ Some c →
    rule_of c.settings follows.tests ≡ Some rule
rule_is h i rule c follows at =
    let same = some_is c follows.component (sym at ∙ follows.runs) in
    ap (λ (d : Component). rule_of d.settings follows.tests) same ∙ follows.ruled

-- and these mean what its conditions say
pub mean_is : (h : Record) (i : ℕ) (rule : Rule) (c : Component) (follows : RunsBy h i rule) → component_of h i ≡ Some c →
    AllMean (conditions_of c.settings) follows.tests
mean_is h i rule c follows at =
    subst (λ (d : Component). AllMean (conditions_of d.settings) follows.tests) (sym (some_is c follows.component (sym at ∙ follows.runs))) follows.mean
