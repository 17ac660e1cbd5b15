-- What was judged may be answered.
use Rattle.std.proofs.Common.{◌≡◌, ℕ, suc, ◌≤◌, Bool, true, false, List, [], ◌∷◌, ◌++◌, reverse, length, refl, sym, ap, ◌∙◌, arith, subst}
use Rattle.std.specs.Prelude.{◌≢◌, ◌==◌, is_some, map, if◌then◌else◌}
use Rattle.std.proofs.lemmas.Bool.{eq-eqb}
use Rattle.std.proofs.lemmas.Bool.Decides.{nat_tests}
use Rattle.std.proofs.lemmas.List.{reverse-append, length-map}
use Rattle.std.proofs.lemmas.Nat.{pow_pos}
use Rattle.vx_value.specs.declared.event.Event.{Event}
use Rattle.vx_ends.specs.Observation.{Observation}
use Rattle.vx_ledger.specs.Copies.{numbers_of}
use Rattle.vx_ledger.specs.declared.parcel.Parcel.{Parcel}
use Rattle.vx_condition.specs.Steps.{Step, comes, events_of}
use Rattle.vx_record.specs.declared.output.Output.{Output}
use Rattle.vx_record.specs.Records.{Record}
use Rattle.vx_record.specs.Copies.{count, joined}
use Rattle.vx_record.specs.Inputs.{Input, unanswered, or_flush, to_answer}
use Rattle.vx_record.specs.Parcels.{parcel_event}
use Rattle.vx_record.specs.Places.Place.{Held}
use Rattle.vx_record.specs.Shifts.{at}
use Rattle.vx_record.specs.Turns.{is_out}
use Rattle.vx_record.specs.Transforms.{Judge, judges, RunsBy, port_bits, put_on, left_over, output_by, discarded_by, judged, refused, answered_events}
use Rattle.vx_record.specs.Abandoning.{abandoned}
use Rattle.vx_record.specs.Answering.{MayAnswer}
use Rattle.vx_record.specs.Legal.{IsLegal}
use Rattle.vx_record.specs.Judges.{judge_at, parcels_given}
use Rattle.vx_record.proofs.Changes.{stands_once}
use Rattle.vx_record.proofs.Judges.{held_is_given, may_answer_now}
use Rattle.vx_record.proofs.OnePlace.{conserved}
use Rattle.vx_record.proofs.Shifting.{stands_at}
use Rattle.vx_record.proofs.TasksOut.{out_to_worker}
use Rattle.vx_places.specs.Numbers.{numbers}
use Rattle.vx_tasks.specs.declared.landing.Done.{Done}
use Rattle.vx_tasks.specs.declared.landing.Done.TheVariants.{Judged}
use Rattle.vx_tasks.specs.declared.landing.Landing.{Landing}
use Rattle.vx_tasks.specs.declared.task.Role.{Role}
use Rattle.vx_tasks.specs.Doing.{events_in}
use Rattle.vx_tasks.specs.Judging.{put_out_on, refused_on, AreDistinct}
use Rattle.vx_record.specs.declared.entry.Entry.TheVariants.{Answer}
use Rattle.vx_tasks.specs.Unleased.{StandsAt, HasKept}
use Rattle.vx_tasks.specs.Laws.{JudgeIs, EachJudged, HeldDistinct, AnswersNow, AnswerKept}
use Rattle.vx_tasks.specs.Out.{IsHeld, is_unfit, leaves_unfit, picked_ports, HasJudged, HasActed, HasDone}
use Rattle.vx_tasks.proofs.Dividing.{noted_on}
use Rattle.vx_tasks.proofs.Judges.{come_judges, runs_by}
use Rattle.vx_tasks.proofs.Answered.{answered_next}
use Rattle.vx_tasks.proofs.Given.{AllCame, took_some, all_came}
use Rattle.vx_tasks.proofs.Writing.{events_said}

-- WHAT IT ANSWERS
-- one parcel is put out
one_out : (on : List ℕ) (n : ℕ) (p : Parcel) (rest : List Output) → n ≡ port_bits on →
    put_on on p.event (numbers_of p.finalizers) ++ rest ≡ (if n == 0 then rest else noted_on n p ∷ rest)
one_out [] n p rest none =
    let test : (n == 0) ≡ true = eq-eqb n 0 none in
    ap (λ (b : Bool). if b then rest else noted_on n p ∷ rest) (sym test)
one_out (port ∷ ports) n p rest some =
    let bit = pow_pos port in
    let test : (n == 0) ≡ false = grind (arith, nat_tests, some, bit) in
    ap (λ (m : ℕ). noted_on m p ∷ rest) (sym some) ∙ ap (λ (b : Bool). if b then rest else noted_on n p ∷ rest) (sym test)

-- or discarded
one_refused : (on : List ℕ) (n : ℕ) (copies rest : List ℕ) → n ≡ port_bits on →
    left_over on copies ++ rest ≡ (if n == 0 then copies ++ rest else rest)
one_refused [] n copies rest none =
    let test : (n == 0) ≡ true = eq-eqb n 0 none in
    ap (λ (b : Bool). if b then copies ++ rest else rest) (sym test)
one_refused (port ∷ ports) n copies rest some =
    let bit = pow_pos port in
    let test : (n == 0) ≡ false = grind (arith, nat_tests, some, bit) in
    ap (λ (b : Bool). if b then copies ++ rest else rest) (sym test)

-- inputs that came as some parcels are answered as these are put out
answered_so : (h : Record) (judge : Judge) (xs : List Input) (parcels : List Parcel) (ports : List ℕ) (earlier : List Event) →
    numbers parcels ≡ parcels_given xs → AllCame h xs → map (parcel_event h) (numbers parcels) ≡ events_in parcels →
    ports ≡ picked_ports judge earlier (events_in parcels) →
    (judged judge earlier xs ≡ put_out_on ports parcels) × (refused judge earlier xs ≡ refused_on ports parcels)
answered_so h judge [] [] [] earlier same came events said = (refl, refl)
answered_so h judge [] [] (n ∷ ns) earlier same came events said = (refl, refl)
answered_so h judge [] (p ∷ ps) ports earlier same came events said = cc
answered_so h judge (x ∷ xs) [] ports earlier same came events said = cc
answered_so h judge (x ∷ xs) (p ∷ ps) [] earlier same came events said = cc
answered_so h judge (x ∷ xs) (p ∷ ps) (n ∷ ns) earlier same came events said =
    let own : numbers_of p.finalizers ≡ x.copies = cc in
    let event : parcel_event h (numbers_of p.finalizers) ≡ p.event = cc in
    let now : n ≡ port_bits (judge earlier p.event) = first_same n ns _ _ said in
    let next : List Event = earlier ++ events_of (x.step ∷ []) in
    let step : x.step ≡ comes p.event came.0.0 =
    came.0.1 ∙ ap (λ (e : Event). comes e came.0.0) (ap (parcel_event h) (sym own) ∙ event) in
    let rest = answered_so h judge xs ps ns next (rest_same _ _ _ _ same) came.1 (rest_same _ _ _ _ events)
    (rest_same n ns _ _ said ∙ ap (λ (s : Step). picked_ports judge (earlier ++ events_of (s ∷ [])) (events_in ps)) (sym step)) in (
      ap (λ (s : Step). output_by judge earlier s x.copies ++ judged judge next xs) step
          ∙ ap (λ (cs : List ℕ). put_on (judge earlier p.event) p.event cs ++ judged judge next xs) (sym own)
          ∙ ap (λ (os : List Output). put_on (judge earlier p.event) p.event (numbers_of p.finalizers) ++ os) rest.0
          ∙ one_out (judge earlier p.event) n p (put_out_on ns ps) now,
      ap (λ (s : Step). discarded_by judge earlier s x.copies ++ refused judge next xs) step
          ∙ ap (λ (cs : List ℕ). left_over (judge earlier p.event) cs ++ refused judge next xs) (sym own)
          ∙ ap (λ (cs : List ℕ). left_over (judge earlier p.event) (numbers_of p.finalizers) ++ cs) rest.1
          ∙ one_refused (judge earlier p.event) n (numbers_of p.finalizers) (refused_on ns ps) now,
    )
  where
    first_same : {X : Type 0} (a : X) (more : List X) (b : X) (rest : List X) → a ∷ more ≡ b ∷ rest → a ≡ b
    first_same a more b rest is = cc

    rest_same : {X : Type 0} (a : X) (more : List X) (b : X) (rest : List X) → a ∷ more ≡ b ∷ rest → more ≡ rest
    rest_same a more b rest is = cc

-- as many are said as there are events
length-picked : (judge : Judge) (earlier es : List Event) → length (picked_ports judge earlier es) ≡ length es
length-picked judge earlier [] = refl
length-picked judge earlier (e ∷ es) = ap suc (length-picked judge (earlier ++ e ∷ []) es)

-- where there is something to answer, it is not to the flush
unflushed : (xs : List Input) → xs ≢ [] → or_flush (reverse xs) ≡ reverse xs
unflushed [] some = absurd (some refl)
unflushed (x ∷ xs) some = subst (λ (ys : List Input). or_flush ys ≡ ys) (sym (reverse-append (x ∷ []) xs)) (go (reverse xs))
  where
    go : (ys : List Input) → or_flush (ys ++ x ∷ []) ≡ ys ++ x ∷ []
    go [] = refl
    go (y ∷ ys) = refl

-- and something is held
given_some : (xs : List Input) → xs ≢ [] → parcels_given (reverse xs) ≢ []
given_some [] some = absurd (some refl)
given_some (x ∷ xs) some = subst (λ (ys : List Input). parcels_given ys ≢ []) (sym (reverse-append (x ∷ []) xs)) (go (reverse xs))
  where
    go : (ys : List Input) → parcels_given (ys ++ x ∷ []) ≢ []
    go [] = λ none. cc
    go (y ∷ ys) = λ none. cc

-- WHAT IS HELD
-- no copy stands at a place twice
pub distinct_there : (h : Record) (i : ℕ) (parcels : List Parcel) → IsLegal h → IsHeld h i parcels → AreDistinct parcels
distinct_there h i parcels legal held = λ c.
    subst (λ (ps : List (List ℕ)). count c (joined ps) ≤ 1) (stands_at h (Held i) legal ∙ sym held.held)
    (stands_once h c (Held i) (conserved h legal))

-- WHAT WAS JUDGED
module _ (h : Record) (i : ℕ) (does : Role) (ports : List ℕ) (parcels : List Parcel) (legal : IsLegal h) (fit : is_unfit does ≡ false)
    (held : IsHeld h i parcels) (acted : HasJudged h i does ports) where
  -- by a judge
  pub judge_here : judge_at h i ≡ true
  judge_here = come_judges h i legal acted.may.transform does fit acted.come

  some_here : unanswered h i ≢ []
  some_here = took_some h i acted.may.took

  module _ (run : abandoned h ≡ false) where
    given_here : at h (Held i) ≡ parcels_given (reverse (unanswered h i))
    given_here = held_is_given h i legal run judge_here acted.may.settled

    rule_here : (judge : Judge) × RunsBy h i (judges judge)
    rule_here = runs_by h i judge_here (acted.meant (λ none. given_some (unanswered h i) some_here (sym given_here ∙ none)))

    said_here : ports ≡ picked_ports rule_here.0 (answered_events h i) (events_in parcels)
    said_here =
        acted.judged rule_here.0 rule_here.1
        ∙ ap (picked_ports rule_here.0 (answered_events h i)) (ap (map (parcel_event h)) (sym held.held) ∙ events_said h parcels held.known held.filled)

    -- each parcel was
    pub length_here : length ports ≡ length parcels
    length_here =
        ap length said_here
        ∙ length-picked rule_here.0 (answered_events h i) (events_in parcels)
        ∙ length-map parcels (λ (p : Parcel). p.event)

    -- behind its answer what it keeps stands for that too
    pub kept_here : HasKept (Answer i (put_out_on ports parcels) (refused_on ports parcels) [] ∷ h) i does
    kept_here =
        subst (StandsAt does)
        (ap (λ (ps : List (List ℕ)). answered_events h i ++ map (parcel_event h) ps) given_here
        ∙ sym (answered_next h i (put_out_on ports parcels) (refused_on ports parcels) [] some_here (all_came h i legal run judge_here)))
        acted.kept

    -- what the record has it answer
    abbrev outs : List Output
    outs = judged rule_here.0 (answered_events h i) (to_answer h i)

    abbrev gone : List ℕ
    gone = refused rule_here.0 (answered_events h i) (to_answer h i)

    so : (outs ≡ put_out_on ports parcels) × (gone ≡ refused_on ports parcels)
    so =
        let to = unflushed (unanswered h i) some_here in
        let both = answered_so h rule_here.0 (reverse (unanswered h i)) parcels ports (answered_events h i) (held.held ∙ given_here)
        (all_came h i legal run judge_here) (events_said h parcels held.known held.filled) said_here in (
          ap (judged rule_here.0 (answered_events h i)) to ∙ both.0,
          ap (refused rule_here.0 (answered_events h i)) to ∙ both.1,
        )

    -- so it may be answered
    pub answer_here : is_out h i ≡ true → MayAnswer h i (put_out_on ports parcels) (refused_on ports parcels) []
    answer_here out =
        let may = may_answer_now h i rule_here.0 legal run out rule_here.1 acted.may.settled some_here in
        subst (λ (cs : List ℕ). MayAnswer h i (put_out_on ports parcels) cs []) so.1
        (subst (λ (os : List Output). MayAnswer h i os gone []) so.0 may)

-- THE LAWS
module _ {P : Type 0} (observe : P → Observation) (h : Record) (landing : Landing P) (ports : List ℕ) (back : HasDone observe h landing)
    (is : landing.done ≡ Judged ports) where
  came_judged : HasJudged h landing.instance landing.task.role ports
  came_judged = subst (λ (d : Done). HasActed (observe landing.task.port) h landing.instance landing.task.role d) is back.acted

  came_fit : is_unfit landing.task.role ≡ false
  came_fit = back.fit ∙ ap leaves_unfit is

pub judge_is : {P : Type 0} (observe : P → Observation) → JudgeIs observe
judge_is observe h landing ports legal back is =
    judge_here h landing.instance landing.task.role ports landing.held.items legal (came_fit observe h landing ports back is) back.held
    (came_judged observe h landing ports back is)

pub each_judged : {P : Type 0} (observe : P → Observation) → EachJudged observe
each_judged observe h landing ports legal run back is =
    length_here h landing.instance landing.task.role ports landing.held.items legal (came_fit observe h landing ports back is) back.held
    (came_judged observe h landing ports back is) run

pub held_distinct : {P : Type 0} (observe : P → Observation) → HeldDistinct observe
held_distinct observe h landing legal back = distinct_there h landing.instance landing.held.items legal back.held

pub answers_now : {P : Type 0} (observe : P → Observation) → AnswersNow observe
answers_now observe h landing ports legal run back is =
    answer_here h landing.instance landing.task.role ports landing.held.items legal (came_fit observe h landing ports back is) back.held
    (came_judged observe h landing ports back is) run (out_to_worker h landing.instance ∙ ap is_some back.out)

pub answer_kept : {P : Type 0} (observe : P → Observation) → AnswerKept observe
answer_kept observe h landing ports legal run back is =
    kept_here h landing.instance landing.task.role ports landing.held.items legal (came_fit observe h landing ports back is) back.held
    (came_judged observe h landing ports back is) run
