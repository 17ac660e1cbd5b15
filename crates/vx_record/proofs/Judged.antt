-- What a judge makes of what it was given: each copy it puts out or discards.
use Rattle.std.proofs.Common.{◌≡◌, ℕ, ◌+◌, Bool, true, false, ◌&&◌, List, [], ◌∷◌, ◌++◌, Option, Some, None, reverse, refl, sym, ap, subst, ◌∙◌, arith}
use Rattle.std.specs.Prelude.{if◌then◌else◌, ◌==◌}
use Rattle.std.proofs.lemmas.Bool.{and_parts, and_from}
use Rattle.std.proofs.lemmas.List.{map-append, reverse-append}
use Rattle.vx_value.specs.declared.event.Event.{Event}
use Rattle.vx_condition.specs.Steps.{Test, Step, comes, ticks, ends, events_of}
use Rattle.vx_plan.specs.declared.component.Component.{Component}
use Rattle.vx_plan.specs.declared.settings.Settings.{Settings}
use Rattle.vx_plan.specs.declared.settings.Settings.TheVariants.{Filter, Route, Sample, Dedupe}
use Rattle.vx_plan.specs.Components.{is_transform}
use Rattle.vx_record.specs.Records.{Record}
use Rattle.vx_record.specs.declared.output.Output.{Output}
use Rattle.vx_record.specs.declared.entry.Entry.TheVariants.{Take, Tick, Answer}
use Rattle.vx_record.specs.Copies.{count, joined}
use Rattle.vx_record.specs.Places.{put_out}
use Rattle.vx_record.specs.Turns.{lease_now}
use Rattle.vx_record.specs.Parcels.{parcel_event}
use Rattle.vx_record.specs.Installs.{component_of, transform_at}
use Rattle.vx_record.specs.Inputs.{Input, unanswered, or_flush, to_answer}
use Rattle.vx_record.specs.Transforms.{Judge, Rule, judges, rule_of, RunsBy, put_on, left_over, output_by, discarded_by, judged, refused, answered_events}
use Rattle.vx_record.specs.Judges.{is_judging, judge_at, parcels_given}
use Rattle.vx_record.proofs.Counts.{count-append}
use Rattle.vx_record.proofs.Rules.{some_is}

-- WHO JUDGES
-- a judge is a transform
pub judge_transform : (h : Record) (i : ℕ) → judge_at h i ≡ true → transform_at h i ≡ true
judge_transform h i is = go (component_of h i) is
  where
    go : (o : Option Component) → (elim o [ None ↦ false | Some c ↦ is_transform c && is_judging c.settings ]) ≡ true →
        (elim o [ None ↦ false | Some c ↦ is_transform c ]) ≡ true
    go None is = is
    go (Some c) is = (and_parts (is_transform c) (is_judging c.settings) is).0

-- and so is who runs by a rule
pub runner_transforms : (h : Record) (i : ℕ) (rule : Rule) → RunsBy h i rule → transform_at h i ≡ true
runner_transforms h i rule follows =
    ap (λ (o : Option Component). elim o [ None ↦ false | Some c ↦ is_transform c ]) follows.runs ∙ follows.transform

judge_of : (judge : Judge) (rule : Rule) → Some (judges judge) ≡ Some rule → (judge : Judge) × (rule ≡ judges judge)
judge_of judge rule is = (judge, sym (some_is (judges judge) rule is))

judging_rule : (settings : Settings) (tests : List Test) (rule : Rule) → is_judging settings ≡ true →
    rule_of settings tests ≡ Some rule → (judge : Judge) × (rule ≡ judges judge)
judging_rule (Filter condition) tests rule is ruled = judge_of _ rule ruled
judging_rule (Route routes reroute) tests rule is ruled = judge_of _ rule ruled
judging_rule (Sample rate exclude) tests rule is ruled = judge_of _ rule ruled
judging_rule (Dedupe fields most) tests rule is ruled = judge_of _ rule ruled
judging_rule other tests rule is ruled = cc

-- each rule that it runs by judges
pub judge_rule : (h : Record) (i : ℕ) (rule : Rule) → judge_at h i ≡ true → RunsBy h i rule →
    (judge : Judge) × (rule ≡ judges judge)
judge_rule h i rule is follows =
    judging_rule follows.component.settings follows.tests rule
    (and_parts (is_transform follows.component) (is_judging follows.component.settings)
    (ap (λ (o : Option Component). elim o [ None ↦ false | Some c ↦ is_transform c && is_judging c.settings ]) (sym follows.runs) ∙ is)).1
    follows.ruled

rule_judging : (settings : Settings) (tests : List Test) (judge : Judge) → rule_of settings tests ≡ Some (judges judge) →
    is_judging settings ≡ true
rule_judging (Filter condition) tests judge ruled = refl
rule_judging (Route routes reroute) tests judge ruled = refl
rule_judging (Sample rate exclude) tests judge ruled = refl
rule_judging (Dedupe fields most) tests judge ruled = refl
rule_judging other tests judge ruled = cc

-- and who runs by such a rule is one
pub runs_judging : (h : Record) (i : ℕ) (judge : Judge) → RunsBy h i (judges judge) → judge_at h i ≡ true
runs_judging h i judge follows =
    ap (λ (o : Option Component). elim o [ None ↦ false | Some c ↦ is_transform c && is_judging c.settings ]) follows.runs
    ∙ and_from (is_transform follows.component) (is_judging follows.component.settings) follows.transform
    (rule_judging follows.component.settings follows.tests judge follows.ruled)

-- WHAT IS GIVEN
-- an input that is no parcel has no copies
abbrev pub CarriesOwn : Step → List ℕ → Type 0
CarriesOwn (comes event now) copies = Unit {0}
CarriesOwn (ticks now) copies = copies ≡ []
CarriesOwn ends copies = copies ≡ []

-- and this holds of each of some inputs
abbrev pub AllCarry : List Input → Type 0
AllCarry [] = Unit {0}
AllCarry (x ∷ xs) = CarriesOwn x.step x.copies × AllCarry xs

carry-append : (xs ys : List Input) → AllCarry xs → AllCarry ys → AllCarry (xs ++ ys)
carry-append [] ys a b = b
carry-append (x ∷ xs) ys a b = (a.0, carry-append xs ys a.1 b)

carry-reverse : (xs : List Input) → AllCarry xs → AllCarry (reverse xs)
carry-reverse [] a = tt
carry-reverse (x ∷ xs) a =
    subst AllCarry (sym (reverse-append (x ∷ []) xs)) (carry-append (reverse xs) (x ∷ []) (carry-reverse xs a.1) (a.0, tt))

unanswered_carry : (h : Record) (i : ℕ) → AllCarry (unanswered h i)
unanswered_carry [] i = tt
unanswered_carry (Take j s copies ∷ h) i = go (j == i) (unanswered_carry h i)
  where
    input : Input
    input = record { step = comes (parcel_event h copies) (lease_now h i); copies = copies }

    go : (b : Bool) → AllCarry (unanswered h i) → AllCarry ((if b then input ∷ [] else []) ++ unanswered h i)
    go true rest = (tt, rest)
    go false rest = rest
unanswered_carry (Tick j now ∷ h) i = go (j == i) (unanswered_carry h i)
  where
    input : Input
    input = record { step = ticks now; copies = [] }

    go : (b : Bool) → AllCarry (unanswered h i) → AllCarry ((if b then input ∷ [] else []) ++ unanswered h i)
    go true rest = (refl, rest)
    go false rest = rest
unanswered_carry (Answer j made discarded kept ∷ h) i = go (j == i) (unanswered_carry h i)
  where
    go : (b : Bool) → AllCarry (unanswered h i) → AllCarry (if b then [] else unanswered h i)
    go true rest = tt
    go false rest = rest
unanswered_carry (e ∷ h) i = unanswered_carry h i

flush_carries : (xs : List Input) → AllCarry xs → AllCarry (or_flush xs)
flush_carries [] a = (refl, tt)
flush_carries (x ∷ xs) a = a

-- the flush has no copies
pub flush_joined : (xs : List Input) → joined (parcels_given (or_flush xs)) ≡ joined (parcels_given xs)
flush_joined [] = refl
flush_joined (x ∷ xs) = refl

-- what is given last comes last
pub given-last : (x : Input) (xs : List Input) → parcels_given (reverse (x ∷ xs)) ≡ parcels_given (reverse xs) ++ x.copies ∷ []
given-last x xs =
    ap (λ (given : List Input). parcels_given given) (reverse-append (x ∷ []) xs)
    ∙ map-append (λ (input : Input). input.copies) (reverse xs) (x ∷ [])

-- WHAT BECOMES OF IT
put_out-append : (c : ℕ) (xs ys : List Output) → count c (put_out (xs ++ ys)) ≡ count c (put_out xs) + count c (put_out ys)
put_out-append c [] ys = omega arith
put_out-append c (x ∷ xs) ys =
    let a = count-append c x.copies (put_out (xs ++ ys)) in
    let b = count-append c x.copies (put_out xs) in
    let ih = put_out-append c xs ys in
    omega (arith, a, b, ih)

step_parts : (judge : Judge) (earlier : List Event) (step : Step) (copies : List ℕ) (c : ℕ) → CarriesOwn step copies →
    count c (put_out (output_by judge earlier step copies)) + count c (discarded_by judge earlier step copies) ≡ count c copies
step_parts judge earlier (comes e now) copies c own = go (judge earlier e)
  where
    go : (ports : List ℕ) → count c (put_out (put_on ports e copies)) + count c (left_over ports copies) ≡ count c copies
    go [] = omega arith
    go (port ∷ ports) = let all = count-append c copies [] in omega (arith, all)
step_parts judge earlier (ticks now) copies c own = let none = ap (count c) own in omega (arith, none)
step_parts judge earlier ends copies c own = let none = ap (count c) own in omega (arith, none)

judged_parts : (judge : Judge) (earlier : List Event) (xs : List Input) (c : ℕ) → AllCarry xs →
    count c (put_out (judged judge earlier xs)) + count c (refused judge earlier xs) ≡ count c (joined (parcels_given xs))
judged_parts judge earlier [] c own = refl
judged_parts judge earlier (x ∷ xs) c own =
    let next = earlier ++ events_of (x.step ∷ []) in
    let here = step_parts judge earlier x.step x.copies c own.0 in
    let ih = judged_parts judge next xs c own.1 in
    let a = put_out-append c (output_by judge earlier x.step x.copies) (judged judge next xs) in
    let b = count-append c (discarded_by judge earlier x.step x.copies) (refused judge next xs) in
    let d = count-append c x.copies (joined (parcels_given xs)) in
    omega (arith, here, ih, a, b, d)

-- each copy of what is to be answered is put out or discarded
pub answer_parts : (judge : Judge) (h : Record) (i c : ℕ) →
    count c (put_out (judged judge (answered_events h i) (to_answer h i)))
    + count c (refused judge (answered_events h i) (to_answer h i))
    ≡ count c (joined (parcels_given (reverse (unanswered h i))))
answer_parts judge h i c =
    judged_parts judge (answered_events h i) (to_answer h i) c
    (flush_carries (reverse (unanswered h i)) (carry-reverse (unanswered h i) (unanswered_carry h i)))
    ∙ ap (count c) (flush_joined (reverse (unanswered h i)))
