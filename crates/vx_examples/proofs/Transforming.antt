-- The rules by which the transforms of the examples answer.
use Rattle.std.proofs.Common.{◌≡◌, ◌∙◌, ◌++◌, ◌%◌, ℕ, true, false, Some, [], ◌∷◌, refl, sym, ap, subst, arith, codes}
use Rattle.std.specs.Prelude.{slice_index_or}
use Rattle.vx_condition.specs.declared.dedupe_fields.DedupeFields.TheVariants.{Match}
use Rattle.vx_condition.specs.Picking.{filter_passes, route_ports, sample_passes, dedupe_passes}
use Rattle.vx_demo.specs.DemoLines.{word_at, demo_line}
use Rattle.vx_demo.specs.declared.demo_settings.DemoSettings.{DemoSettings}
use Rattle.vx_record.specs.declared.taken.Taken.{Taken}
use Rattle.vx_record.specs.Records.{Record}
use Rattle.vx_record.specs.Generating.{generator_of, lines_from, IsNextOf, IsGenerated}
use Rattle.vx_record.specs.Installs.{component_of}
use Rattle.vx_record.specs.Transforms.{Rule, judges, reduces, is_free, passing, RunsBy}
use Rattle.vx_record.proofs.Rules.{some_is}
use Rattle.vx_examples.specs.Filtered.{filter_k}
use Rattle.vx_examples.specs.Routed.{route_k}
use Rattle.vx_examples.specs.Joined.{reduce_all}
use Rattle.vx_examples.specs.Chained.{each_second, no_repeats, handed_in}
use Rattle.vx_examples.specs.Generated.{q_lines}
use Rattle.vx_examples.proofs.Conditions.{is_k, means_k}

-- the filter
abbrev pub filter_rule : Rule
filter_rule = judges (passing (filter_passes is_k))

pub filters : (h : Record) → component_of h 1 ≡ Some filter_k → RunsBy h 1 filter_rule
filters h runs = record { component = filter_k; runs = runs; transform = refl; tests = is_k ∷ []; mean = (means_k, tt); ruled = refl }

-- the route
abbrev pub route_rule : Rule
route_rule = judges (λ earlier. route_ports (is_k ∷ []) true)

pub routes : (h : Record) → component_of h 1 ≡ Some route_k → RunsBy h 1 route_rule
routes h runs = record { component = route_k; runs = runs; transform = refl; tests = is_k ∷ []; mean = (means_k, tt); ruled = refl }

-- the reduce without options
abbrev pub reduce_rule : Rule
reduce_rule =
    reduces (record { group_by = []; starts_when = λ e. false; ends_when = λ e. false; expire_after_ms = 30000; flush_period_ms = 1000; strategies = [] })

pub joins : (h : Record) → component_of h 1 ≡ Some reduce_all → RunsBy h 1 reduce_rule
joins h runs = record { component = reduce_all; runs = runs; transform = refl; tests = []; mean = tt; ruled = refl }

-- the sample
abbrev pub second_rule : Rule
second_rule = judges (passing (sample_passes 2 (λ e. false)))

pub seconds : (h : Record) → component_of h 1 ≡ Some each_second → RunsBy h 1 second_rule
seconds h runs = record { component = each_second; runs = runs; transform = refl; tests = []; mean = tt; ruled = refl }

-- the dedupe
abbrev pub repeats_rule : Rule
repeats_rule = judges (passing (dedupe_passes 2 (Match ((codes "message" ∷ []) ∷ []))))

pub repeats : (h : Record) → component_of h 2 ≡ Some no_repeats → RunsBy h 2 repeats_rule
repeats h runs = record { component = no_repeats; runs = runs; transform = refl; tests = []; mean = tt; ruled = refl }

-- and the host
pub host : (h : Record) → component_of h 3 ≡ Some handed_in → RunsBy h 3 is_free
host h runs = record { component = handed_in; runs = runs; transform = refl; tests = []; mean = tt; ruled = refl }

-- the generator has one text for each line to be
one_line : (k : ℕ) → demo_line q_lines k ≡ codes "q"
one_line k = let e : word_at 0 k % 1 ≡ 0 = omega arith in ap (λ n. slice_index_or (codes "q" ∷ []) n []) e

pub one_next : (k : ℕ) → lines_from q_lines k 1 ≡ 113 ∷ 10 ∷ []
one_next k = ap (λ line. line ++ 10 ∷ []) (one_line k)

pub generated : (h : Record) (took : Taken) → generator_of h 0 ≡ Some q_lines → IsNextOf q_lines h 0 0 took → IsGenerated h 0 0 took
generated h took is next demo at = subst (λ (d : DemoSettings). IsNextOf d h 0 0 took) (some_is q_lines demo (sym is ∙ at)) next
