-- What a judge holds: what its last Answer discarded and isn't spent, or what it took since.
use Rattle.std.proofs.Common.{◌≡◌, ℕ, ◌+◌, ◌<◌, Bool, true, false, List, [], ◌∷◌, ◌++◌, reverse, refl, sym, ap, subst, ◌∙◌, arith, inl, inr}
use Rattle.std.specs.Prelude.{◌⊎◌, ◌==◌, if◌then◌else◌}
use Rattle.std.specs.List.{list_all}
use Rattle.std.proofs.lemmas.Bool.{cases_lt, and_parts, eqb-true, eq-eqb}
use Rattle.std.proofs.lemmas.Bool.Decides.{nat_tests}
use Rattle.vx_status.specs.declared.outcome.Outcome.{Outcome}
use Rattle.vx_status.specs.declared.outcome.Outcome.TheVariants.{Delivered, Attempts, Refusal, Abandoned, NoConsumer, Filtered, NewestDropped}
use Rattle.vx_condition.specs.Steps.{comes, ticks}
use Rattle.vx_record.specs.Records.{Record}
use Rattle.vx_record.specs.declared.output.Output.{Output}
use Rattle.vx_record.specs.declared.entry.Entry.{Entry}
use Rattle.vx_record.specs.declared.entry.Entry.TheVariants.{Install, Lease, Take, Tick, Answer, Spent, Abandon}
use Rattle.vx_record.specs.Copies.{count, joined, times_spent, IsLive}
use Rattle.vx_record.specs.Places.{put_out, all_puts, left}
use Rattle.vx_record.specs.Places.Place.{Outputs, Waiting, Held}
use Rattle.vx_record.specs.Turns.{is_out, since_lease, lease_now, is_take_of}
use Rattle.vx_record.specs.Parcels.{parcel_event}
use Rattle.vx_record.specs.Lists.{shrunk, outputs, waiting, held}
use Rattle.vx_record.specs.SinkBatches.{attempts_with}
use Rattle.vx_record.specs.Inputs.{Input, unanswered, to_answer, steps}
use Rattle.vx_record.specs.Transforms.{Rule, judges, IsDue, PutsOut, Discards, judged, refused, answered_events}
use Rattle.vx_record.specs.Owing.{last_discarded}
use Rattle.vx_record.specs.Abandoning.{abandoned}
use Rattle.vx_record.specs.Answering.{MayTick}
use Rattle.vx_record.specs.Spending.{oldest, MaySpend}
use Rattle.vx_record.specs.Legal.{IsLegal}
use Rattle.vx_record.specs.Judges.{judge_at, parcels_given, HeldIsGiven, HeldIsAnswered, FilteredThere, MayAnswerNow}
use Rattle.vx_record.proofs.Counts.{count-append, unless, unless-none, unless-some}
use Rattle.vx_record.proofs.OnePlace.{conserved}
use Rattle.vx_record.proofs.Changes.{NoneEmpty, none_empty, without-all, shrunk-none}
use Rattle.vx_record.proofs.Vacant.{self}
use Rattle.vx_record.proofs.Entries.{take_grows, spent_shrinks}
use Rattle.vx_record.proofs.HeldCopies.{not_there}
use Rattle.vx_record.proofs.Answers.{count-shrunk, answer_holds}
use Rattle.vx_record.proofs.Answerers.{sink_untransforming}
use Rattle.vx_record.proofs.Waits.{all_spent, discards_go}
use Rattle.vx_record.proofs.Attempted.{attempts_sink}
use Rattle.vx_record.proofs.Promises.{last_counts, failed_counts}
use Rattle.vx_record.proofs.Untried.{spent_on}
use Rattle.vx_record.proofs.Spenders.{stands_live}
use Rattle.vx_record.proofs.Shifting.{spent_none, entry_shifts, stands_at}
use Rattle.vx_record.proofs.Judged.{judge_transform, judge_rule, runs_judging, flush_joined, given-last, answer_parts}

-- each of some copies is spent
abbrev pub IsSpent : Record → List ℕ → Type 0
IsSpent h copies = (c : ℕ) → 0 < count c copies → 0 < times_spent h c

-- it has answered all, and holds only what that Answer discarded
pub record HoldsDiscards (h : Record) (i : ℕ) : Type 0 where
  pub answered : unanswered h i ≡ []
  pub discards : (c : ℕ) → 0 < count c (joined (held h i)) → 0 < count c (last_discarded h i)

-- what it discarded is spent, and it holds what it took since
pub record HoldsGiven (h : Record) (i : ℕ) : Type 0 where
  pub spent : IsSpent h (last_discarded h i)
  pub given : held h i ≡ parcels_given (reverse (unanswered h i))

-- one of the two
abbrev pub Holding : Record → ℕ → Type 0
Holding h i = HoldsDiscards h i ⊎ HoldsGiven h i

-- an entry that leaves what it holds, its inputs and its discards leaves that too
holds_on : (h : Record) (e : Entry) (i : ℕ) → unanswered (e ∷ h) i ≡ unanswered h i →
    last_discarded (e ∷ h) i ≡ last_discarded h i → held (e ∷ h) i ≡ held h i → Holding h i → Holding (e ∷ h) i
holds_on h e i same gone stays (inl was) = inl (record {
  answered = same ∙ was.answered;
  discards = λ c l.
      subst (λ (cs : List ℕ). 0 < count c cs) (sym gone)
      (was.discards c (subst (λ (ps : List (List ℕ)). 0 < count c (joined ps)) stays l));
})
holds_on h e i same gone stays (inr was) = inr (record {
  spent = λ c l. spent_on h e c (was.spent c (subst (λ (cs : List ℕ). 0 < count c cs) gone l));
  given = stays ∙ was.given ∙ ap (λ (given : List Input). parcels_given (reverse given)) (sym same);
})

-- parcels without copies are none
no_parcels : (ps : List (List ℕ)) → NoneEmpty ps → ((c : ℕ) → count c (joined ps) ≡ 0) → ps ≡ []
no_parcels [] full none = refl
no_parcels ([] ∷ ps) full none = absurd full
no_parcels ((c ∷ cs) ∷ ps) full none = let here = none c in absurd (grind (arith, nat_tests, here))

-- where all that it discarded is spent, it holds what it took since
given_of : (h : Record) (i : ℕ) → IsLegal h → IsSpent h (last_discarded h i) → Holding h i → HoldsGiven h i
given_of h i legal gone (inr was) = was
given_of h i legal gone (inl was) = record {
  spent = gone;
  given =
      no_parcels (held h i) (none_empty (Held i) (left h) (all_puts h)) none
      ∙ ap (λ (given : List Input). parcels_given (reverse given)) (sym was.answered);
}
  where
    none : (c : ℕ) → count c (joined (held h i)) ≡ 0
    none c = elim (cases_lt 0 (count c (joined (held h i)))) [
      | inl some ↦
          let spent = gone c (was.discards c some) in
          let live : IsLive h c = stands_live h (Held i) c (conserved h legal) some in
          let unspent = live.2 in
          absurd (omega (arith, spent, unspent))
      | inr few ↦ omega (arith, few)
    ]

-- TAKES
-- behind a Lease with nothing but Takes, all that was discarded is spent
takes_spent : (h : Record) (i c : ℕ) → IsLegal h → is_out h i ≡ true → list_all (is_take_of i) (since_lease h i) ≡ true →
    0 < count c (last_discarded h i) → 0 < times_spent h c
takes_spent [] i c legal out takes some = cc
takes_spent (Lease j worker now polls ∷ h) i c legal out takes some =
    spent_on h (Lease j worker now polls) c (go (j == i) refl takes)
  where
    go : (b : Bool) → (j == i) ≡ b →
        list_all (is_take_of i) (if b then [] else Lease j worker now polls ∷ since_lease h i) ≡ true → 0 < times_spent h c
    go true is all =
        let same : j ≡ i = eqb-true j i is in
        discards_go [] h j worker now polls legal c (subst (λ (k : ℕ). 0 < count c (last_discarded h k)) (sym same) some)
    go false is all = cc
takes_spent (Take j s copies ∷ h) i c legal out takes some =
    spent_on h (Take j s copies) c
    (takes_spent h i c legal.1 out (and_parts (j == i) (list_all (is_take_of i) (since_lease h i)) takes).1 some)
takes_spent (e ∷ h) i c legal out takes some = cc

taken_holds : (h : Record) (i s : ℕ) (copies : List ℕ) → IsLegal (Take i s copies ∷ h) → Holding h i →
    Holding (Take i s copies ∷ h) i
taken_holds h i s copies legal was = inr (record {
  spent = λ c l. spent_on h (Take i s copies) c (before.spent c l);
  given =
      take_grows h i s copies (conserved (Take i s copies ∷ h) legal)
      ∙ ap (λ (ps : List (List ℕ)). ps ++ copies ∷ []) before.given ∙ sym more;
})
  where
    before : HoldsGiven h i
    before = given_of h i legal.1 (λ c l. takes_spent h i c legal.1 legal.0.row.out legal.0.row.only_takes l) was

    input : Input
    input = record { step = comes (parcel_event h copies) (lease_now h i); copies = copies }

    more : parcels_given (reverse (unanswered (Take i s copies ∷ h) i)) ≡ parcels_given (reverse (unanswered h i)) ++ copies ∷ []
    more =
        ap (λ (b : Bool). parcels_given (reverse ((if b then input ∷ [] else []) ++ unanswered h i))) (self i)
        ∙ given-last input (unanswered h i)

-- TICKS
-- no judge acts by itself
judge_unticked : (h : Record) (i now : ℕ) → judge_at h i ≡ true → MayTick h i now → ⊥
judge_unticked h i now at row =
    let ruled = judge_rule h i row.due.rule at row.due.follows in
    subst (λ (rule : Rule). IsDue rule (steps h i) now) ruled.1 row.due.reached

-- ANSWERS
-- a judge keeps nothing
kept_none : (h : Record) (i : ℕ) (made : List Output) (discarded kept : List ℕ) → IsLegal (Answer i made discarded kept ∷ h) →
    judge_at h i ≡ true → HoldsGiven h i → (c : ℕ) → count c kept ≡ 0
kept_none h i made discarded kept legal at was c =
    let row = legal.0.row in
    let ruled = judge_rule h i row.rule at row.follows in
    let out : made ≡ judged ruled.0 (answered_events h i) (to_answer h i) =
    subst (λ (rule : Rule). PutsOut rule h i made) ruled.1 row.made in
    let gone : discarded ≡ refused ruled.0 (answered_events h i) (to_answer h i) =
    subst (λ (rule : Rule). Discards rule h i discarded) ruled.1 row.refused in
    let a = ap (λ (outs : List Output). count c (put_out outs)) out in
    let b = ap (count c) gone in
    let d = ap (λ (ps : List (List ℕ)). count c (joined ps)) was.given in
    let parts = answer_parts ruled.0 h i c in
    let same = row.same c in
    omega (arith, a, b, d, parts, same)

answered_holds : (h : Record) (i : ℕ) (made : List Output) (discarded kept : List ℕ) →
    IsLegal (Answer i made discarded kept ∷ h) → judge_at h i ≡ true → Holding h i → Holding (Answer i made discarded kept ∷ h) i
answered_holds h i made discarded kept legal at was = inl (record {
  answered = ap (λ (b : Bool). if b then [] else unanswered h i) (self i);
  discards = λ c l.
      let holds = answer_holds h i made discarded kept legal c in
      let none = kept_none h i made discarded kept legal at before c in
      subst (λ (b : Bool). 0 < count c (if b then discarded else last_discarded h i)) (sym (self i))
      (omega (arith, l, holds, none));
})
  where
    before : HoldsGiven h i
    before = given_of h i legal.1 (all_spent h (last_discarded h i) legal.0.row.settled) was

-- SPENDS
among_oldest : (c : ℕ) (ps : List (List ℕ)) → 0 < count c (oldest ps) → 0 < count c (joined ps)
among_oldest c [] some = absurd (omega (arith, some))
among_oldest c (p ∷ ps) some = let all = count-append c p (joined ps) in omega (arith, some, all)

-- a judge attempts nothing
unattempted : (h : Record) (i c : ℕ) → IsLegal h → judge_at h i ≡ true → 0 < attempts_with h i c → ⊥
unattempted h i c legal at some =
    let no : true ≡ false = sym (judge_transform h i at) ∙ sink_untransforming h i (attempts_sink h i c legal some) in cc

-- what it may spend it doesn't hold, where all that it discarded is spent
spends_other : (h : Record) (i c : ℕ) (outcome : Outcome) → IsLegal h → abandoned h ≡ false → judge_at h i ≡ true →
    IsSpent h (last_discarded h i) → MaySpend h i c outcome → count c (joined (held h i)) ≡ 0
spends_other h i c Delivered legal run at gone row = absurd (unattempted h i c legal at (last_counts h i c row.cause.had))
spends_other h i c Refusal legal run at gone row = absurd (unattempted h i c legal at (last_counts h i c row.cause.had))
spends_other h i c Attempts legal run at gone row =
    let many = row.cause in
    let more = failed_counts h i c in
    absurd (unattempted h i c legal at (omega (arith, many, more)))
spends_other h i c Filtered legal run at gone row =
    let spent = gone c row.cause in
    let unspent = row.live.2 in
    absurd (omega (arith, spent, unspent))
spends_other h i c NewestDropped legal run at gone row =
    not_there h (Waiting i row.cause.0) (Held i) c (conserved h legal) refl
    (among_oldest c (waiting h i row.cause.0) row.cause.1.next)
spends_other h i c NoConsumer legal run at gone row =
    not_there h (Outputs i) (Held i) c (conserved h legal) refl (among_oldest c (outputs h i) row.cause.next)
spends_other h i c Abandoned legal run at gone row = let no : true ≡ false = sym row.cause.0 ∙ run in cc

some_of : (m n : ℕ) → 0 < unless m n → 0 < n
some_of m n some = elim (cases_lt 0 m) [
  | inl more ↦ let none = unless-some m n more in absurd (omega (arith, some, none))
  | inr few ↦ let same = unless-none m n (omega (arith, few)) in omega (arith, some, same)
]

spent_holds : (h : Record) (j c : ℕ) (outcome : Outcome) (i : ℕ) → IsLegal (Spent j c outcome ∷ h) → abandoned h ≡ false →
    judge_at h i ≡ true → Holding h i → Holding (Spent j c outcome ∷ h) i
spent_holds h j c outcome i legal run at (inl was) = inl (record {
  answered = was.answered;
  discards = λ d l. was.discards d (fewer d l);
})
  where
    fewer : (d : ℕ) → 0 < count d (joined (held (Spent j c outcome ∷ h) i)) → 0 < count d (joined (held h i))
    fewer d l =
        some_of (count d (c ∷ [])) (count d (joined (held h i)))
        (subst (λ (n : ℕ). 0 < n) (ap (λ (ps : List (List ℕ)). count d (joined ps))
        (spent_shrinks h j c outcome (Held i) (conserved (Spent j c outcome ∷ h) legal)) ∙ count-shrunk d (c ∷ []) (held h i)) l)
spent_holds h j c outcome i legal run at (inr was) =
    holds_on h (Spent j c outcome) i refl refl
    (spent_shrinks h j c outcome (Held i) (conserved (Spent j c outcome ∷ h) legal)
    ∙ shrunk-none (c ∷ []) (held h i) (none_empty (Held i) (left h) (all_puts h)) (λ d l. apart d l (c == d) refl))
    (inr was)
  where
    none : (b : Bool) → (j == i) ≡ b → count c (joined (held h i)) ≡ 0
    none false is = spent_none h j c (Held i) (conserved h legal.1) legal.0.row.here is
    none true is =
        let same : j ≡ i = eqb-true j i is in
        spends_other h i c outcome legal.1 run at was.spent (subst (λ (k : ℕ). MaySpend h k c outcome) same legal.0.row)

    apart : (d : ℕ) → 0 < count d (joined (held h i)) → (b : Bool) → (c == d) ≡ b → (if b then 1 else 0) + 0 ≡ 0
    apart d l false is = refl
    apart d l true is =
        let same : c ≡ d = eqb-true c d is in
        let gone = subst (λ (x : ℕ). count x (joined (held h i)) ≡ 0) same (none (j == i) refl) in
        absurd (omega (arith, l, gone))

-- ALL ENTRIES
holding : (h : Record) (i : ℕ) → IsLegal h → abandoned h ≡ false → judge_at h i ≡ true → Holding h i
holding [] i legal run at = inr (record { spent = λ c l. absurd (omega (arith, l)); given = refl })
holding (Install version plan once instances now ∷ h) i legal run at =
    subst (λ (k : Record). Holding (Install version plan once instances now ∷ k) i) (sym legal.0.row.first)
    (inr (record { spent = λ c l. absurd (omega (arith, l)); given = refl }))
holding (Take j s copies ∷ h) i legal run at = go (j == i) refl (holding h i legal.1 run at)
  where
    input : Input
    input = record { step = comes (parcel_event h copies) (lease_now h i); copies = copies }

    go : (b : Bool) → (j == i) ≡ b → Holding h i → Holding (Take j s copies ∷ h) i
    go true is was =
        let same : j ≡ i = eqb-true j i is in
        subst (λ (k : ℕ). Holding (Take j s copies ∷ h) k) same
        (taken_holds h j s copies legal (subst (λ (k : ℕ). Holding h k) (sym same) was))
    go false is was =
        holds_on h (Take j s copies) i (ap (λ (b : Bool). (if b then input ∷ [] else []) ++ unanswered h i) is) refl
        (entry_shifts h (Take j s copies) (Held i) legal
        ∙ ap (λ (b : Bool). if b then held h i ++ copies ∷ [] else held h i) is) was
holding (Tick j now ∷ h) i legal run at = go (j == i) refl (holding h i legal.1 run at)
  where
    input : Input
    input = record { step = ticks now; copies = [] }

    go : (b : Bool) → (j == i) ≡ b → Holding h i → Holding (Tick j now ∷ h) i
    go true is was =
        let same : j ≡ i = eqb-true j i is in
        absurd (judge_unticked h i now at (subst (λ (k : ℕ). MayTick h k now) same legal.0.row))
    go false is was =
        holds_on h (Tick j now) i (ap (λ (b : Bool). (if b then input ∷ [] else []) ++ unanswered h i) is) refl
        (entry_shifts h (Tick j now) (Held i) legal) was
holding (Answer j made discarded kept ∷ h) i legal run at = go (j == i) refl (holding h i legal.1 run at)
  where
    go : (b : Bool) → (j == i) ≡ b → Holding h i → Holding (Answer j made discarded kept ∷ h) i
    go true is was =
        let same : j ≡ i = eqb-true j i is in
        subst (λ (k : ℕ). Holding (Answer j made discarded kept ∷ h) k) same
        (answered_holds h j made discarded kept legal (subst (λ (k : ℕ). judge_at h k ≡ true) (sym same) at)
        (subst (λ (k : ℕ). Holding h k) (sym same) was))
    go false is was =
        holds_on h (Answer j made discarded kept) i (ap (λ (b : Bool). if b then [] else unanswered h i) is)
        (ap (λ (b : Bool). if b then discarded else last_discarded h i) is)
        (entry_shifts h (Answer j made discarded kept) (Held i) legal
        ∙ ap (λ (b : Bool). if b then shrunk (put_out made) (held h i) else held h i) is) was
holding (Spent j c outcome ∷ h) i legal run at = spent_holds h j c outcome i legal run at (holding h i legal.1 run at)
holding (Abandon cause ∷ h) i legal run at = cc
holding (e ∷ h) i legal run at = holds_on h e i refl refl (entry_shifts h e (Held i) legal) (holding h i legal.1 run at)

-- THE LAWS
pub held_is_given : HeldIsGiven
held_is_given h i legal run at settled =
    sym (stands_at h (Held i) legal)
    ∙ (given_of h i legal (all_spent h (last_discarded h i) settled) (holding h i legal run at)).given

pub held_is_answered : HeldIsAnswered
held_is_answered h i legal run at settled =
    ap (λ (ps : List (List ℕ)). joined ps) (held_is_given h i legal run at settled)
    ∙ sym (flush_joined (reverse (unanswered h i)))

pub filtered_there : FilteredThere
filtered_there h i legal run at none c l = go (holding h i legal run at)
  where
    some : 0 < count c (joined (held h i))
    some = subst (λ (ps : List (List ℕ)). 0 < count c (joined ps)) (sym (stands_at h (Held i) legal)) l

    go : Holding h i → 0 < count c (last_discarded h i)
    go (inl was) = was.discards c some
    go (inr was) =
        let all = ap (λ (ps : List (List ℕ)). count c (joined ps)) was.given in
        let empty = ap (λ (given : List Input). count c (joined (parcels_given (reverse given)))) none in
        absurd (omega (arith, some, all, empty))

pub may_answer_now : MayAnswerNow
may_answer_now h i judge legal run out follows settled some = record {
  out = out;
  settled = settled;
  rule = judges judge;
  follows = follows;
  made = refl;
  refused = refl;
  same = λ c. let all = copies c in omega (arith, all);
  in_order =
      sym (without-all (put_out outs ++ gone) (joined (held h i))
      (λ c l. let all = copies c in let both = count-append c (put_out outs) gone in omega (arith, l, all, both)));
  flush = λ none. absurd (some none);
}
  where
    outs : List Output
    outs = judged judge (answered_events h i) (to_answer h i)

    gone : List ℕ
    gone = refused judge (answered_events h i) (to_answer h i)

    copies : (c : ℕ) → count c (put_out outs) + count c gone ≡ count c (joined (held h i))
    copies c =
        answer_parts judge h i c
        ∙ ap (λ (ps : List (List ℕ)). count c (joined ps))
        (sym (given_of h i legal (all_spent h (last_discarded h i) settled)
        (holding h i legal run (runs_judging h i judge follows))).given)
