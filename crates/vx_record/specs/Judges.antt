-- Transforms that judge event by event: what they hold, and what they may answer.
use Rattle.std.specs.Prelude.{ℕ, ◌<◌, ◌≡◌, ◌≢◌, Bool, true, false, ◌&&◌, List, [], map, reverse}
use Rattle.vx_plan.specs.declared.component.Component.{Component}
use Rattle.vx_plan.specs.declared.settings.Settings.{Settings}
use Rattle.vx_plan.specs.declared.settings.Settings.TheVariants.{Filter, Route, Sample, Dedupe}
use Rattle.vx_plan.specs.Components.{is_transform}
use Rattle.vx_record.specs.Records.{Record}
use Rattle.vx_record.specs.Copies.{count, joined}
use Rattle.vx_record.specs.Turns.{is_out}
use Rattle.vx_record.specs.Places.Place.{Held}
use Rattle.vx_record.specs.Installs.{component_or, transform_at}
use Rattle.vx_record.specs.Inputs.{Input, unanswered, to_answer}
use Rattle.vx_record.specs.Transforms.{Judge, judges, RunsBy, judged, refused, answered_events}
use Rattle.vx_record.specs.Owing.{last_discarded, owes_discards}
use Rattle.vx_record.specs.Abandoning.{abandoned}
use Rattle.vx_record.specs.Answering.{MayAnswer}
use Rattle.vx_record.specs.Shifts.{at}
use Rattle.vx_record.specs.Legal.{IsLegal}

-- whether a component of these settings judges event by event
abbrev pub is_judging : Settings → Bool
is_judging (Filter condition) = true
is_judging (Route routes reroute) = true
is_judging (Sample rate exclude) = true
is_judging (Dedupe fields most) = true
is_judging other = false

-- whether the instance is a transform that does
abbrev pub judge_at : Record → ℕ → Bool
judge_at = component_or false (λ (c : Component). is_transform c && is_judging c.settings)

-- each transform does
abbrev pub OnlyJudges : Record → Type 0
OnlyJudges h = (i : ℕ) → transform_at h i ≡ true → judge_at h i ≡ true

-- the parcels of some inputs
abbrev pub parcels_given : List Input → List (List ℕ)
parcels_given given = map (λ (input : Input). input.copies) given

-- once all that it discarded is spent, a judge holds the parcels that it took since its last Answer, in order
abbrev pub HeldIsGiven : Type 0
HeldIsGiven =
    (h : Record) (i : ℕ) → IsLegal h → abandoned h ≡ false → judge_at h i ≡ true → owes_discards h i ≡ false →
    at h (Held i) ≡ parcels_given (reverse (unanswered h i))

-- these are the copies that its next Answer is to
abbrev pub HeldIsAnswered : Type 0
HeldIsAnswered =
    (h : Record) (i : ℕ) → IsLegal h → abandoned h ≡ false → judge_at h i ≡ true → owes_discards h i ≡ false →
    joined (at h (Held i)) ≡ joined (parcels_given (to_answer h i))

-- what a judge holds that took nothing since its last Answer, that Answer discarded
abbrev pub FilteredThere : Type 0
FilteredThere =
    (h : Record) (i : ℕ) → IsLegal h → abandoned h ≡ false → judge_at h i ≡ true → unanswered h i ≡ [] →
    (c : ℕ) → 0 < count c (joined (at h (Held i))) → 0 < count c (last_discarded h i)

-- a judge that is out may answer what it took as it judges, and keeps nothing
abbrev pub MayAnswerNow : Type 0
MayAnswerNow =
    (h : Record) (i : ℕ) (judge : Judge) → IsLegal h → abandoned h ≡ false → is_out h i ≡ true → RunsBy h i (judges judge) →
    owes_discards h i ≡ false → unanswered h i ≢ [] →
    MayAnswer h i (judged judge (answered_events h i) (to_answer h i)) (refused judge (answered_events h i) (to_answer h i)) []
