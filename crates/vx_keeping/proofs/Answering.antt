-- What a keeper made may be noted, and how it stands behind that.
use Rattle.std.proofs.Common.{◌≡◌, ℕ, ◌<◌, ◌≤◌, Bool, true, false, not, ◌&&◌, cond, Option, Some, None, List, [], ◌∷◌, ◌++◌, map, reverse, refl, sym, ap, ap₂, ◌∙◌, subst, arith, inl, inr, append_assoc}
use Rattle.std.specs.Prelude.{◌==◌, ◌≢◌, ◌||◌, filter, nat_le, IsSomeAnd, All}
use Rattle.std.specs.List.{sum_by, list_any}
use Rattle.std.proofs.lemmas.Bool.Decides.{nat_tests}
use Rattle.std.proofs.lemmas.Bool.{cases_lt}
use Rattle.std.proofs.lemmas.List.{reverse-append, reverse-reverse}
use Rattle.vx_value.specs.Texts.{is_empty}
use Rattle.vx_ledger.specs.Copies.{Copy, numbers_of}
use Rattle.vx_transform.specs.declared.output.Output.{Output}
use Rattle.vx_transform.specs.Shelves.{Shelved, copies_put_out, copies_dropped}
use Rattle.vx_condition.specs.Steps.{ticks}
use Rattle.vx_condition.specs.Reducing.{due}
use Rattle.vx_record.specs.declared.output.Output.{Output as NotedOutput}
use Rattle.vx_record.specs.declared.entry.Entry.{Entry}
use Rattle.vx_record.specs.declared.entry.Entry.TheVariants.{Answer}
use Rattle.vx_record.specs.Records.{Record}
use Rattle.vx_record.specs.Copies.{count, joined, times_spent}
use Rattle.vx_record.specs.Places.{put_out}
use Rattle.vx_record.specs.Places.Place.{Held}
use Rattle.vx_record.specs.Lists.{without}
use Rattle.vx_record.specs.Turns.{lease_now}
use Rattle.vx_record.specs.Inputs.{Input as NotedInput, unanswered, inputs, at_answer, answered, flush, or_flush, to_answer, is_tick, ticks_wait, steps, steps_of}
use Rattle.vx_record.specs.Transforms.{Rule, reduces, is_free, RunsBy, PutsOut, Discards, reduced, is_reached, IsDue, IsTickDue}
use Rattle.vx_record.specs.Owing.{last_discarded, owes_discards}
use Rattle.vx_record.specs.Shifts.{at}
use Rattle.vx_record.specs.Legal.{IsLegal}
use Rattle.vx_record.proofs.Answers.{inputs_parted}
use Rattle.vx_record.proofs.Counts.{count-append}
use Rattle.vx_record.proofs.Shifting.{stands_at}
use Rattle.vx_places.specs.Numbers.{parcels_out, EachFilled}
use Rattle.vx_reduce.specs.declared.reduce.Reduce.{Reduce}
use Rattle.vx_reduce.specs.Groups.{copies_held}
use Rattle.vx_reduce.specs.Standing.{settings_of}
use Rattle.vx_keeping.specs.Kept.{Kept, nothing, loose_copies, copies_made, HoldsNone, copies_kept}
use Rattle.vx_keeping.specs.Given.{IsSound}
use Rattle.vx_keeping.specs.Keeping.{noted_input_at, taken_in, RunsHost, IsBareOrMeant, HasMakerGiven, OwesOnly, Keeps, HasMade}
use Rattle.vx_keeping.specs.Answers.{Runs, notes_of, IsDueBehind}
use Rattle.vx_keeping.specs.Laws.{ToAnswerTaken, ToAnswerTick, ToAnswerFlush, DueIs, TickIsDue, NoTickBefore, OnlyHostsDiscard, MadeMayBeNoted, NoneKept, MayAnswerMade}
use Rattle.vx_keeping.proofs.Ruling.{rule_there, reducing_rule, host_rule, free_rule}
use Rattle.vx_keeping.proofs.Staying.{with_stays, host_stays, rule_before}
use Rattle.vx_keeping.proofs.Sound.{rest_sound, none_sound, sound_noted}
use Rattle.vx_keeping.proofs.Accounting.{kept_weigh, held_none, if_self, put_or_kept, none_kept, put_out_accounts}
use Rattle.vx_keeping.proofs.Reporting.{are_noted, observed_behind, notes_reduced}
use Rattle.vx_keeping.proofs.Filling.{over_filled}
use Rattle.vx_keeping.proofs.Carrying.{to_answer_filled}

-- WHAT IS TO BE ANSWERED
reverse_some : {X : Type 0} (xs : List X) → xs ≢ [] → reverse xs ≢ []
reverse_some xs some none = some (sym (reverse-reverse xs) ∙ ap reverse none)

or_flush_some : (xs : List NotedInput) → xs ≢ [] → or_flush xs ≡ xs
or_flush_some [] some = absurd (some refl)
or_flush_some (x ∷ xs) some = refl

pub unticked : (xs : List NotedInput) → list_any (λ (x : NotedInput). is_tick x.step) xs ≡ false → filter (λ (x : NotedInput). not (is_tick x.step)) xs ≡ xs
unticked [] none = refl
unticked (x ∷ xs) none = go (is_tick x.step) none (λ is. unticked xs is)
  where
    go : (b : Bool) → (b || list_any (λ (x : NotedInput). is_tick x.step) xs) ≡ false → (list_any (λ (x : NotedInput). is_tick x.step) xs ≡ false → filter (λ (x : NotedInput). not (is_tick x.step)) xs ≡ xs) →
        cond (not b) (x ∷ filter (λ (x : NotedInput). not (is_tick x.step)) xs) (filter (λ (x : NotedInput). not (is_tick x.step)) xs) ≡ x ∷ xs
    go true is ih = absurd cc
    go false is ih = ap (λ l. x ∷ l) (ih is)

pub to_answer_taken : ToAnswerTaken
to_answer_taken h i none some = or_flush_some (reverse (unanswered h i)) (reverse_some (unanswered h i) some) ∙ ap reverse (sym (unticked (unanswered h i) none))

pub to_answer_tick : ToAnswerTick
to_answer_tick h i now none =
    ap (λ (xs : List NotedInput). or_flush (reverse (xs ++ unanswered h i))) (if_self i (tick ∷ []) [])
    ∙ ap or_flush (reverse-append (tick ∷ []) (unanswered h i))
    ∙ or_flush_some (reverse (unanswered h i) ++ tick ∷ []) (not_empty (reverse (unanswered h i)))
    ∙ ap (λ (xs : List NotedInput). reverse xs ++ tick ∷ []) (sym (unticked (unanswered h i) none))
  where
    tick : NotedInput
    tick = record { step = ticks now; copies = [] }

    not_empty : (xs : List NotedInput) → (xs ++ tick ∷ []) ≢ []
    not_empty [] is = cc
    not_empty (x ∷ xs) is = cc

pub to_answer_flush : ToAnswerFlush
to_answer_flush h i none =
    (ap (λ (xs : List NotedInput). reverse (filter (λ (x : NotedInput). not (is_tick x.step)) xs)) none, ap (λ (xs : List NotedInput). or_flush (reverse xs)) none)

-- WHEN A TICK IS DUE
pub due_is : DueIs
due_is h i soonest s none r due_behind =
    due_behind.moment s r
    ∙ ap (λ (xs : List NotedInput). due s (steps_of (xs ++ answered h i))) (ap reverse (ap reverse (unticked (unanswered h i) none)) ∙ reverse-reverse (unanswered h i))
    ∙ ap (λ (xs : List NotedInput). due s (steps_of xs)) (sym (inputs_parted h i))

pub tick_is_due : TickIsDue
tick_is_due h i moment now none due_behind reached = go (due_behind.runs refl)
  where
    le_true : (m n : ℕ) → m ≤ n → nat_le m n ≡ true
    le_true m n l = grind (arith, nat_tests)

    go : Runs h i → IsTickDue h i now
    go (inl rule) = record {
      rule = reduces rule.0;
      follows = rule.1;
      reached = ap (λ (o : Option ℕ). is_reached o now) (sym (due_is h i (Some moment) rule.0 none rule.1 due_behind)) ∙ le_true moment now reached;
    }
    go (inr host) = record { rule = is_free; follows = host_rule h i host; reached = tt }

reached_then : (soonest : Option ℕ) (now : ℕ) → is_reached soonest now ≡ true → IsSomeAnd soonest (λ moment. moment ≤ now)
reached_then None now is = cc
reached_then (Some moment) now is = grind (arith, nat_tests, is)

-- the rule by which a tick is due is the one by which it reduces, of a keeper that can answer
no_tick_by : (m : Option Reduce) (on : Shelved) (gone : List Copy) (h : Record) (i now : ℕ) (soonest : Option ℕ) → HasMakerGiven m on gone h i [] → (RunsHost h i → ⊥) → ticks_wait h i ≡ false →
    IsDueBehind soonest h i (taken_in h i) → IsTickDue h i now → IsSomeAnd soonest (λ moment. moment ≤ now)
no_tick_by (Some r) on gone h i now soonest g no_host none due_behind tick =
    let rule = reducing_rule h i (settings_of r) tick.rule g.set tick.follows in
    let runs : RunsBy h i (reduces rule.0) = subst (RunsBy h i) rule.1 tick.follows in
    let reached : is_reached (due rule.0 (steps h i)) now ≡ true = subst (λ (r : Rule). IsDue r (steps h i) now) rule.1 tick.reached in
    reached_then soonest now (ap (λ (o : Option ℕ). is_reached o now) (due_is h i soonest rule.0 none runs due_behind) ∙ reached)
no_tick_by None on gone h i now soonest g no_host none due_behind tick = absurd (no_host g.set)

pub no_tick_before : NoTickBefore
no_tick_before k h i now soonest fit keeps no_host none due_behind tick = no_tick_by k.maker k.shelf k.discarded h i now soonest (keeps.abreast fit).given.by no_host none due_behind tick

-- only a host discards something
keeps_all : (m : Option Reduce) (on : Shelved) (gone : List Copy) (h : Record) (i : ℕ) → HasMakerGiven m on gone h i [] → (RunsHost h i → ⊥) → gone ≡ []
keeps_all (Some r) on gone h i g no_host = g.discarded
keeps_all None on gone h i g no_host = absurd (no_host g.set)

pub only_hosts_discard : OnlyHostsDiscard
only_hosts_discard k h i keeps fit no_host = keeps_all k.maker k.shelf k.discarded h i (keeps.abreast fit).given.by no_host

-- WHAT MAY BE NOTED
pub none_made : (m : Option Reduce) → HoldsNone m → copies_made m ≡ []
none_made (Some r) none = ap copies_held none
none_made None none = refl

pub nothing_kept : (k : Kept) → k.loose ≡ None → k.taken.items ≡ [] → HoldsNone k.maker → k.shelf ≡ nothing → k.discarded ≡ [] → copies_kept k ≡ []
nothing_kept k loose taken none shelf clear =
    ap (λ (o : Option Copy). loose_copies o ++ (copies_made k.maker ++ (copies_dropped k.taken.items ++ ((copies_put_out k.shelf.outputs ++ copies_dropped k.shelf.dropped) ++ k.discarded)))) loose
    ∙ ap (λ (cs : List Copy). cs ++ (copies_dropped k.taken.items ++ ((copies_put_out k.shelf.outputs ++ copies_dropped k.shelf.dropped) ++ k.discarded))) (none_made k.maker none)
    ∙ ap (λ ps. copies_dropped ps ++ ((copies_put_out k.shelf.outputs ++ copies_dropped k.shelf.dropped) ++ k.discarded)) taken
    ∙ ap (λ (sh : Shelved). (copies_put_out sh.outputs ++ copies_dropped sh.dropped) ++ k.discarded) shelf
    ∙ clear

-- where the instance holds something, it runs by a rule
runs_by : (m : Option Reduce) (on : Shelved) (gone : List Copy) (h : Record) (i : ℕ) (behind : List NotedInput) → HasMakerGiven m on gone h i behind → (HoldsNone m → on ≡ nothing → gone ≡ [] → ⊥) → Runs h i
runs_by (Some r) on gone h i behind g some = go g.meant
  where
    go : IsBareOrMeant r on → Runs h i
    go (inl bare) = absurd (some bare.0 bare.1 g.discarded)
    go (inr m) = inl (rule_there h i m.0 (settings_of r) g.set m.1)
runs_by None on gone h i behind g some = inr g.set

runs_there : (k : Kept) (h : Record) (i : ℕ) (behind : List NotedInput) → IsLegal h → HasMade k h i behind → at h (Held i) ≢ [] → Runs h i
runs_there k h i behind legal made some = runs_by k.maker k.shelf k.discarded h i behind made.given.by (λ holds bare clear.
    let none = nothing_kept k made.given.loose made.taken holds bare clear in
    some (held_none h i legal (λ c. made.accounts.counted c ∙ ap (λ cs. count c (numbers_of cs)) none)))

-- each output has a copy
sound_filled : (os : List Output) → All IsSound os → EachFilled (parcels_out os)
sound_filled [] sound = tt
sound_filled (o ∷ os) sound = ((sound 0 o (omega arith)).filled, sound_filled os (rest_sound o os sound))

filled_by : (m : Option Reduce) (on : Shelved) (gone : List Copy) (h : Record) (i : ℕ) → IsLegal h → HasMakerGiven m on gone h i (to_answer h i) → EachFilled (parcels_out on.outputs)
filled_by (Some r) on gone h i legal g = go g.meant
  where
    go : IsBareOrMeant r on → EachFilled (parcels_out on.outputs)
    go (inl bare) = subst (λ (sh : Shelved). EachFilled (parcels_out sh.outputs)) (sym bare.1) tt
    go (inr m) =
        let rule = rule_there h i m.0 (settings_of r) g.set m.1 in
        subst (λ (sh : Shelved). EachFilled (parcels_out sh.outputs)) (sym (g.shelf rule.0 rule.1))
        (over_filled rule.0 g.earlier g.more (to_answer_filled h i g.earlier g.more legal g.answered g.given))
filled_by None on gone h i legal g = sound_filled on.outputs g.sound

-- what it puts out and discards is what the rule says
puts_out_by : (m : Option Reduce) (on : Shelved) (gone : List Copy) (h : Record) (i : ℕ) (rule : Rule) → HasMakerGiven m on gone h i (to_answer h i) → RunsBy h i rule →
    PutsOut rule h i (notes_of on.outputs) × Discards rule h i (numbers_of gone)
puts_out_by (Some r) on gone h i rule g follows =
    let is = reducing_rule h i (settings_of r) rule g.set follows in
    subst (λ (x : Rule). PutsOut x h i (notes_of on.outputs) × Discards x h i (numbers_of gone)) (sym is.1) (
      ap (λ (sh : Shelved). notes_of sh.outputs) (g.shelf is.0 (subst (RunsBy h i) is.1 follows)) ∙ notes_reduced is.0 g.earlier g.more ∙ ap₂ (reduced is.0) g.answered g.given,
      ap numbers_of g.discarded,
    )
puts_out_by None on gone h i rule g follows =
    subst (λ (x : Rule). PutsOut x h i (notes_of on.outputs) × Discards x h i (numbers_of gone)) (sym (free_rule h i rule g.set follows)) (sound_noted on.outputs g.sound, tt)

pub made_may_be_noted : MadeMayBeNoted
made_may_be_noted k h i legal made = record {
  made = λ rule follows. (puts_out_by k.maker k.shelf k.discarded h i rule made.given.by follows).0;
  refused = λ rule follows. (puts_out_by k.maker k.shelf k.discarded h i rule made.given.by follows).1;
  runs = runs_there k h i (to_answer h i) legal made;
  noted = are_noted k.shelf.outputs;
  filled = filled_by k.maker k.shelf k.discarded h i legal made.given.by;
  same = λ c. put_or_kept k h i legal made.accounts c ∙ ap (λ ps. count c (joined ps)) (sym (stands_at h (Held i) legal));
}

-- what is on its shelf is put out
none_dropped : (m : Option Reduce) (on : Shelved) (gone : List Copy) (h : Record) (i : ℕ) (behind : List NotedInput) → HasMakerGiven m on gone h i behind → on.dropped ≡ []
none_dropped (Some r) on gone h i behind g = go g.meant
  where
    go : IsBareOrMeant r on → on.dropped ≡ []
    go (inl bare) = ap (λ (sh : Shelved). sh.dropped) bare.1
    go (inr m) = let rule = rule_there h i m.0 (settings_of r) g.set m.1 in ap (λ (sh : Shelved). sh.dropped) (g.shelf rule.0 rule.1)
none_dropped None on gone h i behind g = g.dropped

pub kept_nothing : NoneKept
kept_nothing k h i given legal made none = none_kept k h i legal made.accounts (λ w.
    let a = ap (λ (o : Option Copy). sum_by w (loose_copies o)) made.given.loose in
    let b = ap (λ (cs : List Copy). sum_by w cs) (none_made k.maker none) in
    let c = ap (λ ps. sum_by w (copies_dropped ps)) made.taken in
    let d = ap (λ ps. sum_by w (copies_dropped ps)) (none_dropped k.maker k.shelf k.discarded h i given made.given.by) in
    omega (arith, a, b, c, d))

-- WHAT WAS DISCARDED IS SPENT
none_owed : (h : Record) (i : ℕ) → OwesOnly h i [] → owes_discards h i ≡ false
none_owed h i owed = go (last_discarded h i) owed
  where
    go : (cs : List ℕ) → ((c : ℕ) → 0 < count c cs → times_spent h c ≡ 0 → 0 < count c []) → list_any (λ c. times_spent h c == 0) cs ≡ false
    go [] owed = refl
    go (c ∷ cs) owed =
        let here : (times_spent h c == 0) ≡ false = spent c (λ none. let some : 0 < count c (c ∷ cs) = grind (arith, nat_tests) in let no = owed c some none in absurd (omega (arith, no))) in
        let rest = go cs (λ d some none. owed d (let a = count-append d (c ∷ []) cs in omega (arith, a, some)) none) in
        ap (λ (b : Bool). b || list_any (λ c. times_spent h c == 0) cs) here ∙ rest
      where
        spent : (c : ℕ) → (times_spent h c ≡ 0 → ⊥) → (times_spent h c == 0) ≡ false
        spent c some = go_on (times_spent h c) some
          where
            go_on : (n : ℕ) → (n ≡ 0 → ⊥) → (n == 0) ≡ false
            go_on n some = elim (cases_lt 0 n) [ inl more ↦ grind (arith, nat_tests, more) | inr none ↦ absurd (some (omega (arith, none))) ]

pub may_answer_made : MayAnswerMade
may_answer_made k h i legal out made some flushes =
    let notes = made_may_be_noted k h i legal made in
    let rule = rule_of_runs (notes.runs some) in
    record {
      out = out;
      settled = none_owed h i made.settled;
      rule = rule.0;
      follows = rule.1;
      made = notes.made rule.0 rule.1;
      refused = notes.refused rule.0 rule.1;
      same = notes.same;
      in_order = ap (λ (ps : List (List ℕ)). without (put_out (notes_of k.shelf.outputs) ++ numbers_of k.discarded) (joined ps)) (sym (stands_at h (Held i) legal));
      flush = flushes;
    }
  where
    rule_of_runs : Runs h i → (rule : Rule) × RunsBy h i rule
    rule_of_runs (inl reducing) = (reduces reducing.0, reducing.1)
    rule_of_runs (inr host) = (is_free, host_rule h i host)

-- BEHIND THE ANSWER
flush_first : (u : List NotedInput) (j : Bool) → j ≡ true → (cond (j && is_empty u) (flush ∷ []) [] ++ []) ++ u ≡ reverse (or_flush (reverse u))
flush_first [] true is = refl
flush_first (x ∷ u) true is = sym (reverse-reverse (x ∷ u)) ∙ ap reverse (sym (or_flush_some (reverse (x ∷ u)) (reverse_some (x ∷ u) (λ none. cc))))
flush_first u false is = absurd cc

answered_then : (h : Record) (i : ℕ) (outputs : List NotedOutput) (discarded kept : List ℕ) → answered (Answer i outputs discarded kept ∷ h) i ≡ reverse (to_answer h i) ++ answered h i
answered_then h i outputs discarded kept =
    let self : (i == i) ≡ true = grind (arith, nat_tests) in
    ap (λ (g : Record). inputs g i) (if_self i (Answer i outputs discarded kept ∷ h) (at_answer h i))
    ∙ ap (λ (xs : List NotedInput). (cond ((i == i) && is_empty (unanswered h i)) (flush ∷ []) [] ++ []) ++ xs) (inputs_parted h i)
    ∙ sym (append_assoc (cond ((i == i) && is_empty (unanswered h i)) (flush ∷ []) [] ++ []) (unanswered h i) (answered h i))
    ∙ ap (λ (xs : List NotedInput). xs ++ answered h i) (flush_first (unanswered h i) (i == i) self)

-- a maker was given what is answered then
then_given : (m : Option Reduce) (on : Shelved) (gone : List Copy) (h : Record) (i : ℕ) (outputs : List NotedOutput) (discarded kept : List ℕ) → IsLegal (Answer i outputs discarded kept ∷ h) →
    HasMakerGiven m on gone h i (to_answer h i) → HasMakerGiven m nothing gone (Answer i outputs discarded kept ∷ h) i []
then_given (Some r) on gone h i outputs discarded kept legal g = record {
  set = with_stays h i (Answer i outputs discarded kept) (settings_of r) legal g.set;
  earlier = reverse g.more ++ g.earlier;
  more = [];
  answered = observed_behind g.more g.earlier ∙ ap₂ (λ xs ys. reverse xs ++ ys) g.given g.answered ∙ sym (answered_then h i outputs discarded kept);
  given = refl;
  stands = λ s rule. g.stands s (rule_before h i (Answer i outputs discarded kept) (settings_of r) (reduces s) legal g.set rule);
  shelf = λ s rule. refl;
  meant = meant g.meant;
  discarded = g.discarded;
}
  where
    meant : IsBareOrMeant r on → IsBareOrMeant r nothing
    meant (inl bare) = inl (bare.0, refl)
    meant (inr m) = inr m
then_given None on gone h i outputs discarded kept legal g = record {
  set = host_stays h i (Answer i outputs discarded kept) legal g.set;
  sound = none_sound;
  dropped = refl;
  bare = λ none. refl;
}

module _ (old new : Kept) (h : Record) (i : ℕ) (kept : List ℕ) (is : new ≡ record old { shelf = nothing; dropped = 0 }) (made : HasMade old h i (to_answer h i)) (legal : IsLegal (Answer i (notes_of old.shelf.outputs) (numbers_of old.discarded) kept ∷ h)) where
  abbrev entry : Entry
  entry = Answer i (notes_of old.shelf.outputs) (numbers_of old.discarded) kept

  abbrev behind : Kept
  behind = record old { shelf = nothing; dropped = 0 }

  pub put_out_keeps : Keeps new (Answer i (notes_of old.shelf.outputs) (numbers_of old.discarded) kept ∷ h) i
  put_out_keeps = subst (λ (k : Kept). Keeps k (entry ∷ h) i) (sym is) (record {
    accounts = put_out_accounts old h i legal.1 made.accounts behind (numbers_of old.discarded) kept (λ w.
        let a = kept_weigh behind w in
        let d = ap (λ ps. sum_by w (copies_dropped ps)) (none_dropped old.maker old.shelf old.discarded h i (to_answer h i) made.given.by) in
        omega (arith, a, d));
    abreast = λ fit. record {
      given = record {
        by = then_given old.maker old.shelf old.discarded h i (notes_of old.shelf.outputs) (numbers_of old.discarded) kept legal made.given.by;
        loose = made.given.loose;
      };
      bare = refl;
      taken =
          ap (map (noted_input_at (lease_now h i))) made.taken
          ∙ sym (ap (λ (xs : List NotedInput). reverse (filter (λ (x : NotedInput). not (is_tick x.step)) xs)) (if_self i [] (unanswered h i)));
      owed = λ c some none. subst (λ (cs : List ℕ). 0 < count c cs) (if_self i (numbers_of old.discarded) (last_discarded h i)) some;
      dropped = refl;
    };
  })
