-- The events that an instance has answered.
use Rattle.std.proofs.Common.{◌≡◌, ℕ, Bool, true, false, List, [], ◌∷◌, ◌++◌, reverse, map, refl, sym, ap, ◌∙◌, subst}
use Rattle.std.specs.Prelude.{◌≢◌, ◌==◌, ◌&&◌, if◌then◌else◌}
use Rattle.std.proofs.lemmas.Bool.{eq-eqb}
use Rattle.std.proofs.lemmas.List.{reverse-append, map-append}
use Rattle.vx_value.specs.Texts.{is_empty}
use Rattle.vx_value.specs.declared.event.Event.{Event}
use Rattle.vx_condition.specs.Steps.{Step, comes, ticks, ends, events_of}
use Rattle.vx_record.specs.declared.entry.Entry.{Entry}
use Rattle.vx_record.specs.declared.entry.Entry.TheVariants.{Answer}
use Rattle.vx_record.specs.declared.output.Output.{Output}
use Rattle.vx_record.specs.Records.{Record}
use Rattle.vx_record.specs.Parcels.{parcel_event}
use Rattle.vx_record.specs.Additions.{OnlyAdds, Each}
use Rattle.vx_record.specs.Makers.{Spares}
use Rattle.vx_record.specs.Tasks.{is_of}
use Rattle.vx_record.specs.Inputs.{Input, flush, inputs, unanswered, at_answer, answered, steps_of}
use Rattle.vx_record.specs.Judges.{parcels_given}
use Rattle.vx_record.specs.Transforms.{answered_events}
use Rattle.vx_record.proofs.Answers.{inputs_parted}
use Rattle.vx_tasks.specs.declared.task.Role.{Role}
use Rattle.vx_tasks.specs.Unleased.{StandsAt, HasKept}
use Rattle.vx_tasks.proofs.Given.{AllCame}

-- an entry is no Answer of the instance
abbrev pub AnswersNone : ℕ → Entry → Type 0
AnswersNone i (Answer j made discarded kept) = (j == i) ≡ false
AnswersNone i other = Unit {0}

-- behind such an entry it has answered what it had
pub answered_on : (h : Record) (e : Entry) (i : ℕ) → AnswersNone i e → answered_events (e ∷ h) i ≡ answered_events h i
answered_on h (Answer j made discarded kept) i other =
    ap (λ (b : Bool). events_of (reverse (steps_of (inputs (if b then Answer j made discarded kept ∷ h else at_answer h i) i)))) other
answered_on h e i other = refl

pub spares_none : (e : Entry) (i : ℕ) → is_of i e ≡ false → AnswersNone i e
spares_none (Answer j made discarded kept) i spares = spares
spares_none e i spares = tt

-- and what it keeps stands for that
pub stands_on : (does : Role) (h : Record) (e : Entry) (i : ℕ) → AnswersNone i e → HasKept h i does → HasKept (e ∷ h) i does
stands_on does h e i none = subst (StandsAt does) (sym (answered_on h e i none))

-- so it is while others go on
pub answered_stays : (old new : Record) (i : ℕ) → OnlyAdds (Spares i) old new → answered_events new i ≡ answered_events old i
answered_stays old new i adds = ap (λ (h : Record). answered_events h i) adds.is ∙ go adds.added adds.each
  where
    go : (es : List Entry) → Each (Spares i) es old → answered_events (es ++ old) i ≡ answered_events old i
    go [] each = refl
    go (e ∷ es) each = answered_on (es ++ old) e i (spares_none e i each.0.kind) ∙ go es each.1

events-append : (xs ys : List Step) → events_of (xs ++ ys) ≡ events_of xs ++ events_of ys
events-append [] ys = refl
events-append (comes e now ∷ xs) ys = ap (λ (es : List Event). e ∷ es) (events-append xs ys)
events-append (ticks now ∷ xs) ys = events-append xs ys
events-append (ends ∷ xs) ys = events-append xs ys

-- the events of what came
came_events : (h : Record) (xs : List Input) → AllCame h xs → events_of (steps_of xs) ≡ map (parcel_event h) (parcels_given xs)
came_events h [] came = refl
came_events h (x ∷ xs) came =
    ap (λ (s : Step). events_of (s ∷ steps_of xs)) came.0.1 ∙ ap (λ (es : List Event). parcel_event h x.copies ∷ es) (came_events h xs came.1)

steps-reverse : (xs : List Input) → steps_of (reverse xs) ≡ reverse (steps_of xs)
steps-reverse [] = refl
steps-reverse (x ∷ xs) =
    ap steps_of (reverse-append (x ∷ []) xs) ∙ map-append (λ (y : Input). y.step) (reverse xs) (x ∷ [])
    ∙ ap (λ (ss : List Step). ss ++ x.step ∷ []) (steps-reverse xs) ∙ sym (reverse-append (x.step ∷ []) (steps_of xs))

some_left : (xs : List Input) → xs ≢ [] → is_empty xs ≡ false
some_left [] some = absurd (some refl)
some_left (x ∷ xs) some = refl

self : (i : ℕ) → (i == i) ≡ true
self i = eq-eqb i i refl

-- behind its Answer to something it has answered that too
pub answered_next : (h : Record) (i : ℕ) (made : List Output) (discarded kept : List ℕ) → unanswered h i ≢ [] →
    AllCame h (reverse (unanswered h i)) →
    answered_events (Answer i made discarded kept ∷ h) i ≡ answered_events h i ++ map (parcel_event h) (parcels_given (reverse (unanswered h i)))
answered_next h i made discarded kept some came =
    ap (λ (b : Bool). events_of (reverse (steps_of (inputs (if b then Answer i made discarded kept ∷ h else at_answer h i) i)))) (self i)
    ∙ ap (λ (b : Bool). events_of (reverse (steps_of (((if (i == i) && b then flush ∷ [] else []) ++ []) ++ inputs h i)))) (some_left (unanswered h i) some)
    ∙ ap (λ (b : Bool). events_of (reverse (steps_of (((if b && false then flush ∷ [] else []) ++ []) ++ inputs h i)))) (self i)
    ∙ ap (λ (xs : List Input). events_of (reverse (steps_of xs))) (inputs_parted h i)
    ∙ ap (λ (ss : List Step). events_of (reverse ss)) (map-append (λ (y : Input). y.step) (unanswered h i) (answered h i))
    ∙ ap events_of (reverse-append (steps_of (unanswered h i)) (steps_of (answered h i)))
    ∙ events-append (reverse (steps_of (answered h i))) (reverse (steps_of (unanswered h i)))
    ∙ ap (λ (es : List Event). answered_events h i ++ es)
    (ap events_of (sym (steps-reverse (unanswered h i))) ∙ came_events h (reverse (unanswered h i)) came)
