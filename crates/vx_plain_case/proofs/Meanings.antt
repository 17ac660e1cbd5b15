-- A transform of a chain puts out what it passes of what it took, and in the end it has answered all.
use Rattle.std.proofs.Common.{◌≡◌, ℕ, Bool, true, false, List, [], ◌∷◌, ◌++◌, reverse, refl, sym, ap, subst, ◌∙◌}
use Rattle.std.specs.Prelude.{◌==◌, ◌&&◌, if◌then◌else◌, Some}
use Rattle.std.proofs.lemmas.Bool.{eqb-true}
use Rattle.std.proofs.lemmas.List.{append-nil, reverse-reverse}
use Rattle.vx_value.specs.Texts.{is_empty}
use Rattle.vx_value.specs.declared.event.Event.{Event}
use Rattle.vx_condition.specs.Steps.{Test, comes, ticks, passed_after}
use Rattle.vx_plan.specs.declared.plan.Plan.{Plan}
use Rattle.vx_record.specs.declared.output.Output.{Output}
use Rattle.vx_record.specs.declared.entry.Entry.TheVariants.{Install, Born, Take, Tick, Answer, Abandon}
use Rattle.vx_record.specs.Records.{Record}
use Rattle.vx_record.specs.Turns.{lease_now}
use Rattle.vx_record.specs.Places.Place.{Contents, Held}
use Rattle.vx_record.specs.Lists.{parcels_at, stands}
use Rattle.vx_record.specs.Parcels.{parcel_event}
use Rattle.vx_record.specs.Sending.{IsOldest}
use Rattle.vx_record.specs.Places.{all_puts, left}
use Rattle.vx_record.specs.Inputs.{Input, unanswered, inputs, answered, at_answer, to_answer, flush}
use Rattle.vx_record.specs.Installs.{source_at, transform_at, in_force}
use Rattle.vx_record.specs.Transforms.{judges, passing, answered_events}
use Rattle.vx_record.specs.Judges.{parcels_given}
use Rattle.vx_record.specs.Legal.{IsLegal}
use Rattle.vx_record.proofs.Changes.{NoneEmpty, none_empty}
use Rattle.vx_record.proofs.Answers.{inputs_parted}
use Rattle.vx_record.proofs.Answerers.{source_untransforming}
use Rattle.vx_record.proofs.Judged.{runner_transforms, runs_judging}
use Rattle.vx_record.proofs.Judges.{held_is_given}
use Rattle.vx_record.proofs.Senders.{creator}
use Rattle.vx_plain_case.specs.Plain.{IsPicker}
use Rattle.vx_plain_case.proofs.Plans.{Run, runs_by}
use Rattle.vx_plain_case.proofs.Flows.{put_events, took_events, output_events}
use Rattle.vx_plain_case.proofs.FirstPorts.{picked_made}
use Rattle.vx_plain_case.proofs.Ended.{NoneLive, nothing_at, nothing_owed}
use Rattle.vx_plain_case.proofs.Picking.{IsFull, AllFull, full-reverse, full-flush, passed-append, judged_passed, events_given, given-append, given_in_order, flush_none}

-- WHAT IT TOOK
-- what an instance took are the events that it was given
took_given : (h : Record) (i : ℕ) → took_events h i ≡ events_given (inputs h i)
took_given [] i = refl
took_given (Take j s copies ∷ h) i = go (j == i) (took_given h i)
  where
    input : Input
    input = record { step = comes (parcel_event h copies) (lease_now h i); copies = copies }

    go : (b : Bool) → took_events h i ≡ events_given (inputs h i) →
        took_events h i ++ (if b then parcel_event h copies ∷ [] else []) ≡ events_given ((if b then input ∷ [] else []) ++ inputs h i)
    go true ih = ap (λ es. es ++ parcel_event h copies ∷ []) ih ∙ sym (given-append (input ∷ []) (inputs h i))
    go false ih = append-nil (took_events h i) ∙ ih
took_given (Tick j now ∷ h) i = go (j == i) (took_given h i)
  where
    input : Input
    input = record { step = ticks now; copies = [] }

    go : (b : Bool) → took_events h i ≡ events_given (inputs h i) → took_events h i ≡ events_given ((if b then input ∷ [] else []) ++ inputs h i)
    go true ih = ih ∙ sym (append-nil (events_given (inputs h i))) ∙ sym (given-append (input ∷ []) (inputs h i))
    go false ih = ih
took_given (Answer j made discarded kept ∷ h) i = go ((j == i) && is_empty (unanswered h i)) (took_given h i)
  where
    go : (b : Bool) → took_events h i ≡ events_given (inputs h i) → took_events h i ≡ events_given ((if b then flush ∷ [] else []) ++ [] ++ inputs h i)
    go true ih = ih ∙ sym (append-nil (events_given (inputs h i))) ∙ sym (given-append (flush ∷ []) (inputs h i))
    go false ih = ih
took_given (e ∷ h) i = took_given h i

-- those that it answered, and those that it didn't
pub took_parted : (h : Record) (i : ℕ) → took_events h i ≡ answered_events h i ++ events_given (unanswered h i)
took_parted h i =
    took_given h i ∙ ap (λ (given : List Input). events_given given) (inputs_parted h i) ∙ given-append (unanswered h i) (answered h i)

-- no parcel that it took is empty
full_oldest : (copies : List ℕ) (ps : List (List ℕ)) (e : Event) (now : ℕ) → IsOldest copies ps → NoneEmpty ps → IsFull (comes e now) copies
full_oldest copies [] e now old full = absurd old
full_oldest copies ([] ∷ ps) e now old full = absurd full
full_oldest copies ((c ∷ cs) ∷ ps) e now old full = subst (IsFull (comes e now)) (sym old) tt

-- so none that it hasn't answered is
unanswered_full : (h : Record) (i : ℕ) → IsLegal h → AllFull (unanswered h i)
unanswered_full [] i legal = tt
unanswered_full (Take j s copies ∷ h) i legal = go (j == i) (unanswered_full h i legal.1)
  where
    input : Input
    input = record { step = comes (parcel_event h copies) (lease_now h i); copies = copies }

    go : (b : Bool) → AllFull (unanswered h i) → AllFull ((if b then input ∷ [] else []) ++ unanswered h i)
    go true rest = (full_oldest copies (parcels_at (Contents j s) (stands h)) (parcel_event h copies) (lease_now h i) legal.0.row.oldest (none_empty (Contents j s) (left h) (all_puts h)), rest)
    go false rest = rest
unanswered_full (Tick j now ∷ h) i legal = go (j == i) (unanswered_full h i legal.1)
  where
    input : Input
    input = record { step = ticks now; copies = [] }

    go : (b : Bool) → AllFull (unanswered h i) → AllFull ((if b then input ∷ [] else []) ++ unanswered h i)
    go true rest = (tt, rest)
    go false rest = rest
unanswered_full (Answer j made discarded kept ∷ h) i legal = go (j == i) (unanswered_full h i legal.1)
  where
    go : (b : Bool) → AllFull (unanswered h i) → AllFull (if b then [] else unanswered h i)
    go true rest = tt
    go false rest = rest
unanswered_full (e ∷ h) i legal = unanswered_full h i legal.1

-- WHAT IT PUT OUT
-- it puts out what it passes of what it answered
abbrev pub Passes : Record → ℕ → (List Event → Test) → Type 0
Passes h t passes = put_events h t ≡ passed_after [] passes (answered_events h t)

-- what an Answer puts out passes of what wasn't answered
answer_passed : (plan : Plan) (h : Record) (t : ℕ) (passes : List Event → Test) (made : List Output) (discarded kept : List ℕ) →
    IsPicker plan (record { number = t; passes = passes }) → in_force h ≡ Some plan → IsLegal (Answer t made discarded kept ∷ h) →
    output_events made ≡ passed_after (answered_events h t) passes (events_given (unanswered h t))
answer_passed plan h t passes made discarded kept picks force legal =
    ap (λ (outs : List Output). output_events outs) (picked_made plan h t passes made discarded kept picks force legal)
    ∙ judged_passed passes (answered_events h t) (to_answer h t)
    (full-flush (reverse (unanswered h t)) (full-reverse (unanswered h t) (unanswered_full h t legal.1)))
    ∙ ap (λ es. passed_after (answered_events h t) passes es) (flush_none (reverse (unanswered h t)) ∙ given_in_order (unanswered h t))

-- an Answer, of the transform or of another
on_answer : (plan : Plan) (h : Record) (t j : ℕ) (passes : List Event → Test) (made : List Output) (discarded kept : List ℕ) →
    IsPicker plan (record { number = t; passes = passes }) → in_force h ≡ Some plan → IsLegal (Answer j made discarded kept ∷ h) →
    Passes h t passes → Passes (Answer j made discarded kept ∷ h) t passes
on_answer plan h t j passes made discarded kept picks force legal was = go (j == t) refl
  where
    k : Record
    k = Answer j made discarded kept ∷ h

    here : j ≡ t → put_events h t ++ output_events made ≡ passed_after [] passes (events_given (inputs k t))
    here same =
        ap (λ es. es ++ output_events made) was
        ∙ ap (λ es. passed_after [] passes (answered_events h t) ++ es)
        (answer_passed plan h t passes made discarded kept picks force (subst (λ (n : ℕ). IsLegal (Answer n made discarded kept ∷ h)) same legal))
        ∙ sym (passed-append passes [] (answered_events h t) (events_given (unanswered h t)))
        ∙ ap (λ es. passed_after [] passes es) (sym (took_parted h t) ∙ took_given k t)

    go : (b : Bool) → (j == t) ≡ b → put_events h t ++ (if b then output_events made else [])
        ≡ passed_after [] passes (events_given (inputs (if b then k else at_answer h t) t))
    go true is = here (eqb-true j t is)
    go false is = append-nil (put_events h t) ∙ was

-- so it is in each run of the plan
pub passes_on : (plan : Plan) (h : Record) (t : ℕ) (passes : List Event → Test) → IsPicker plan (record { number = t; passes = passes }) → Run plan h → Passes h t passes
passes_on plan [] t passes picks run = refl
passes_on plan (Install version made once instances now ∷ h) t passes picks run =
    subst (λ (k : Record). Passes (Install version made once instances now ∷ k) t passes) (sym run.legal.0.row.first) refl
passes_on plan (Born j b place copies events waits stream end ∷ h) t passes picks run =
    go (j == t) refl (passes_on plan h t passes picks (record { legal = run.legal.1; installed = run.installed; whole = run.whole }))
  where
    no_birth : j ≡ t → ⊥
    no_birth same =
        let source : source_at h j ≡ true = (creator h j _ run.legal.1 run.legal.0.row.yields).0 in
        let transform : transform_at h t ≡ true = runner_transforms h t (judges (passing passes)) (runs_by plan h t passes picks run.legal.1 run.installed) in
        let no : true ≡ false = sym transform ∙ source_untransforming h t (subst (λ (n : ℕ). source_at h n ≡ true) same source) in cc

    go : (d : Bool) → (j == t) ≡ d → Passes h t passes → put_events h t ++ (if d then events else []) ≡ passed_after [] passes (answered_events h t)
    go true is ih = absurd (no_birth (eqb-true j t is))
    go false is ih = append-nil (put_events h t) ∙ ih
passes_on plan (Answer j made discarded kept ∷ h) t passes picks run =
    on_answer plan h t j passes made discarded kept picks run.installed run.legal
    (passes_on plan h t passes picks (record { legal = run.legal.1; installed = run.installed; whole = run.whole }))
passes_on plan (Abandon cause ∷ h) t passes picks run = let no : true ≡ false = run.whole in cc
passes_on plan (e ∷ h) t passes picks run =
    passes_on plan h t passes picks (record { legal = run.legal.1; installed = run.installed; whole = run.whole })

-- IN THE END
no_given : (xs : List Input) → parcels_given (reverse xs) ≡ [] → xs ≡ []
no_given xs none = sym (reverse-reverse xs) ∙ ap (λ (given : List Input). reverse given) (go (reverse xs) none)
  where
    go : (given : List Input) → parcels_given given ≡ [] → given ≡ []
    go [] e = refl
    go (x ∷ given) e = cc

-- in the end it has answered all that it took, so it puts out what it passes of that
pub picks_passed : (plan : Plan) (h : Record) (t : ℕ) (passes : List Event → Test) → IsPicker plan (record { number = t; passes = passes }) → Run plan h → NoneLive h →
    put_events h t ≡ passed_after [] passes (took_events h t)
picks_passed plan h t passes picks run none =
    passes_on plan h t passes picks run
    ∙ ap (λ es. passed_after [] passes es)
    (sym (append-nil (answered_events h t))
    ∙ ap (λ (given : List Input). answered_events h t ++ events_given given) (sym all)
    ∙ sym (took_parted h t))
  where
    all : unanswered h t ≡ []
    all =
        no_given (unanswered h t)
        (sym (held_is_given h t run.legal run.whole
        (runs_judging h t (passing passes) (runs_by plan h t passes picks run.legal run.installed)) (nothing_owed h t run.legal none))
        ∙ nothing_at h (Held t) run.legal none)
