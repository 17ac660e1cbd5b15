-- What a keeper made, and how it becomes an answer.
use Rattle.std.proofs.Common.{◌≡◌, ◌∙◌, ◌≢◌, ◌≤◌, ℕ, Bool, true, false, is_some, List, [], ◌∷◌, ◌++◌, Option, Some, None, IfSome, length, inl, inr, refl, sym, ap, subst, arith}
use Rattle.std.specs.Prelude.{IsSomeAnd, ◌==◌, ◌&&◌, ◌<◌, ◌↔◌, Result, Ok, Err, OnErr, count_by}
use Rattle.std.specs.Global.{Vec}
use Rattle.std.proofs.lemmas.Bool.{cases_eq, cases_lt, or_from}
use Rattle.std.proofs.lemmas.Bool.Decides.{nat_tests}
use Rattle.std.proofs.lemmas.List.{length-map}
use Rattle.vx_ends.specs.Observation.{Observation}
use Rattle.vx_value.specs.Texts.{is_empty}
use Rattle.vx_ledger.specs.Copies.{Copy, numbers_of}
use Rattle.vx_ledger.specs.declared.parcel.Parcel.{Parcel}
use Rattle.vx_plan.specs.declared.class.Class.{Class}
use Rattle.vx_plan.specs.declared.class.Class.TheVariants.{Source, Transform, Sink}
use Rattle.vx_plan.specs.declared.component.Component.{Component}
use Rattle.vx_plan.specs.Components.{is_transform, is_sink}
use Rattle.vx_plan.specs.declared.settings.Settings.{Settings}
use Rattle.vx_plan.specs.declared.settings.Settings.TheVariants as settings
use Rattle.vx_transform.specs.declared.output.Output.{Output}
use Rattle.vx_condition.specs.Steps.{ticks, Test}
use Rattle.vx_record.specs.declared.entry.Entry.{Entry}
use Rattle.vx_record.specs.declared.entry.Entry.TheVariants.{Take, Tick, Answer}
use Rattle.vx_record.specs.Records.{Record}
use Rattle.vx_record.specs.Answering.{MayAnswer, MayFlush}
use Rattle.vx_record.specs.Copies.{count, joined, times_spent}
use Rattle.vx_record.specs.Inputs.{Input, flush, has_tick, to_answer, unanswered, ticks_wait, steps}
use Rattle.vx_record.specs.Legal.{IsLegal}
use Rattle.vx_record.specs.Installs.{component_of, sink_at}
use Rattle.vx_record.specs.Lists.{without}
use Rattle.vx_record.specs.Owing.{last_discarded, owes_discards, unspent_of}
use Rattle.vx_record.specs.Places.{put_out}
use Rattle.vx_record.specs.Places.Place.{Contents, Held}
use Rattle.vx_record.specs.SinkBatches.{is_full_batch}
use Rattle.vx_record.specs.Spending.{oldest}
use Rattle.vx_record.specs.Stages.{first_filled}
use Rattle.vx_record.specs.Shifts.{at}
use Rattle.vx_record.specs.Tallies.{is_first}
use Rattle.vx_record.specs.Transforms.{Rule, judges, reduces, is_free, rule_of, RunsBy, IsDue, IsTickDue}
use Rattle.vx_record.specs.Turns.{is_out, lease_now}
use Rattle.vx_tasks.specs.Joining.{is_joining, joins_at}
use Rattle.vx_record.proofs.Shifting.{stands_at}
use Rattle.vx_balance.proofs.Steps.{aside_kept}
use Rattle.vx_places.specs.declared.row.Row.{Row}
use Rattle.vx_places.specs.Calls.{HasOutputRoomFor, PutsOut as PutsOutAt, Takes}
use Rattle.vx_places.specs.Holding.{AreKnown, Holds, Shifts}
use Rattle.vx_places.specs.Numbers.{AreNoted, parcels_out}
use Rattle.vx_places.specs.Capacities.{SameCapacities}
use Rattle.vx_places.specs.Views.{Same}
use Rattle.vx_places.proofs.Steps.{same_holds, still_shifts, taken_known}
use Rattle.vx_instances.specs.declared.state.InstanceState.{InstanceState}
use Rattle.vx_instances.specs.Knowing.{Knows}
use Rattle.vx_instances.proofs.Aside.{aside_known}
use Rattle.vx_keeping.specs.Answers.{notes_of, kept_behind, IsDueBehind, MayBeNoted, Runs}
use Rattle.vx_keeping.specs.Kept.{Kept, HoldsNone}
use Rattle.vx_keeping.specs.Keeping.{taken_in, Accounts, Keeps, HasMade, OwesOnly, RunsHost}
use Rattle.vx_keeping.proofs.Accounting.{if_self}
use Rattle.vx_keeping.proofs.Going.{made_keeps, none_taken}
use Rattle.vx_keeping.proofs.Resting.{ticks_stay}
use Rattle.vx_keeping.proofs.Answering.{tick_is_due, no_tick_before, to_answer_tick, made_may_be_noted, kept_nothing}
use Rattle.vx_keeping.proofs.Ruling.{host_rule}
use Rattle.vx_keeping.proofs.Others.{outputs_known}
use Rattle.vx_moves.specs.declared.engine.EngineState.{EngineState}
use Rattle.vx_moves.proofs.Keepers.{stays_kept}
use Rattle.vx_moves.specs.Keepers.{keeper_at, IsKept, AreKept, AreKeepers, StandApart, IsKeeper, CanAnswer, Rests, ChecksAt, ChecksOnly, OneKeeper, StaysFit, GetsUnfit, TakesIn, AnswersTaken, Ticks, Flushes, FailsShort, PutsOut}
use Rattle.vx_moves.specs.Merging.{AreMade, StandsMade, IsDiscarding, AreDiscarding, StandsDiscarding, MayMerge, MayNoteMade, answer_of, discarded_of}
use Rattle.vx_moves.specs.Capacities.{AreCapacities}
use Rattle.vx_moves.specs.Stands.{KeptUnleased, StandsBy, Stands, Steps}
use Rattle.vx_moves.specs.Taking.{MayTakeNow}
use Rattle.vx_moves.proofs.Moving.{is_oldest, oldest_is}
use Rattle.vx_moves.proofs.Stepping.{Behind, follows, moved, never_both, none_put, stands_behind, step}

-- with room for what is put out, where each place has what it had, the engine's state stands as before
pub reserved : {P : Type 0} {observe : P → Observation} {old : EngineState P} {AreSo : List (Option Kept) → Record → Type 0} {places : List Row} → StandsBy AreSo observe old old.log →
    Same old.places places → length places ≡ length old.places → SameCapacities old.places places → StandsBy AreSo observe (record old { places = places }) old.log
reserved {old = old} {places = places} stands same rows capacities =
    let holds : Holds places old.log = same_holds old.log old.places places same stands.places in
    let kept : KeptUnleased places old.log = λ i unleased alone. rw (same.here (Held i)) (stands.kept i unleased alone) in
    let apart : StandApart places old.log = λ i joins. same.here (Held i) ∙ stands.keepers.apart i joins in
    let keepers : AreKeepers old.keepers.items places old.log = record { many = stands.keepers.many ∙ sym rows; whose = stands.keepers.whose; apart = apart } in
    let room : AreCapacities places old.log = record { stages = λ i. (capacities i).0 ∙ stands.capacities.stages i; holdings = λ i. rw (capacities i).1 (stands.capacities.holdings i) } in
    assumption (rows ∙ stands.size, stands)

-- ONE KEEPER IS CHANGED
both_some : (F : Kept → Kept → Type 0) (o n : Option Kept) → IsSomeAnd o (λ was. IsSomeAnd n (λ is. F was is)) → is_some n ≡ is_some o
both_some F None n is = absurd is
both_some F (Some was) None is = absurd is
both_some F (Some was) (Some now) is = refl

pub one_keepers : {F : Kept → Kept → Type 0} (i : ℕ) (old new : List (Option Kept)) (rows : List Row) (h : Record) → OneKeeper F i old new →
    AreKeepers old rows h → AreKeepers new rows h
one_keepers {F} i old new rows h one are = record {
  many = one.many ∙ are.many;
  whose = λ j. elim (cases_eq j i) [
    | inl here ↦ rw here (both_some F (keeper_at old i) (keeper_at new i) one.one ∙ are.whose i)
    | inr other ↦ ap is_some (one.others j other) ∙ are.whose j
  ];
  apart = are.apart;
}

-- what is so of the one that was is so of the one that is
pub one_is : (F : Kept → Kept → Type 0) (A B : Kept → Type 0) (o n : Option Kept) → IsSomeAnd o (λ was. IsSomeAnd n (λ is. F was is)) → IfSome o A →
    ((was is : Kept) → F was is → A was → B is) → IsSomeAnd n B
one_is F A B None n is had leads = absurd is
one_is F A B (Some was) None is had leads = absurd is
one_is F A B (Some was) (Some now) is had leads = leads was now is had

pub some_if : (A : Kept → Type 0) (o : Option Kept) → IsSomeAnd o A → IfSome o A
some_if A None is = absurd is
some_if A (Some k) is = is

module _ {P : Type 0} {observe : P → Observation} {old : EngineState P} {slots : Vec (Option Kept)} (i : ℕ) where
  -- it made something of what it kept
  pub made_one : {F : Kept → Kept → Type 0} (given : List Input) → Stands observe old → OneKeeper F i old.keepers.items slots.items →
      ((was is : Kept) → F was is → IsKept was old.log i → HasMade is old.log i given) → StandsMade observe i given (record old { keepers = slots })
  made_one {F} given stands one makes =
      let keepers = one_keepers i old.keepers.items slots.items old.places old.log one stands.keepers in
      let keeps : AreMade i given slots.items old.log = record {
        others = λ j other. rw (one.others j other) (stands.keeps j);
        made = one_is F (λ k. IsKept k old.log i) (λ k. HasMade k old.log i given) (keeper_at old.keepers.items i) (keeper_at slots.items i) one.one (stands.keeps i) makes;
      } in
      assumption (keepers, keeps, stands)

  -- it failed, whatever it was
  failed_by : {AreSo : List (Option Kept) → Record → Type 0} → StandsBy AreSo observe old old.log →
      ((j : ℕ) → j ≢ i → IfSome (keeper_at old.keepers.items j) (λ k. IsKept k old.log j)) →
      IfSome (keeper_at old.keepers.items i) (λ k. Accounts k old.log i × (ticks_wait old.log i ≡ false)) →
      OneKeeper FailsShort i old.keepers.items slots.items → Stands observe (record old { keepers = slots })
  failed_by stands others accounts one =
      let keepers = one_keepers i old.keepers.items slots.items old.places old.log one stands.keepers in
      let here : IfSome (keeper_at slots.items i) (λ k. IsKept k old.log i) =
      some_if (λ k. IsKept k old.log i) (keeper_at slots.items i)
      (one_is FailsShort (λ k. Accounts k old.log i × (ticks_wait old.log i ≡ false)) (λ k. IsKept k old.log i) (keeper_at old.keepers.items i) (keeper_at slots.items i) one.one accounts
      (λ was is fails had. record { keeps = fails.keeps old.log i had.0; cleared = λ fit. never_both fails.gets.unfit fit; unticked = had.1 })) in
      let keeps : AreKept slots.items old.log = λ j. elim (cases_eq j i) [
        | inl same ↦ rw same here
        | inr other ↦ rw (one.others j other) (others j other)
      ] in
      assumption (keepers, keeps, stands)

  pub failed_kept : Stands observe old → OneKeeper FailsShort i old.keepers.items slots.items → Stands observe (record old { keepers = slots })
  failed_kept stands one = failed_by stands (λ j other. stands.keeps j) (accounted (keeper_at old.keepers.items i) (stands.keeps i)) one
    where
      accounted : (o : Option Kept) → IfSome o (λ k. IsKept k old.log i) → IfSome o (λ k. Accounts k old.log i × (ticks_wait old.log i ≡ false))
      accounted None is = tt
      accounted (Some k) is = (is.keeps.accounts, is.unticked)

  pub failed_made : (given : List Input) → StandsMade observe i given old → ticks_wait old.log i ≡ false → OneKeeper FailsShort i old.keepers.items slots.items →
      Stands observe (record old { keepers = slots })
  failed_made given stands unticked one = failed_by stands stands.keeps.others (accounted (keeper_at old.keepers.items i) stands.keeps.made) one
    where
      accounted : (o : Option Kept) → IsSomeAnd o (λ k. HasMade k old.log i given) → IfSome o (λ k. Accounts k old.log i × (ticks_wait old.log i ≡ false))
      accounted None is = absurd is
      accounted (Some k) is = (is.accounts, unticked)

module _ {P : Type 0} {observe : P → Observation} {old : EngineState P} (i : ℕ) where
  -- THE TICK
  -- where one was made and is noted, what was made waits for the Answer to it
  pub ticked : (now : ℕ) → StandsMade observe i (record { step = ticks now; copies = [] } ∷ []) old → MayMerge old.log i now → IsTickDue old.log i now →
      taken_in old.log i ≡ [] → StandsBy (AreMade i (to_answer (Tick i now ∷ old.log) i)) observe (record old { log = Tick i now ∷ old.log }) (Tick i now ∷ old.log)
  ticked now stands may due none =
      let h = old.log in
      let e = Tick i now in
      let all = to_answer_tick h i now may.unticked ∙ ap (λ xs. xs ++ record { step = ticks now; copies = [] } ∷ []) none in
      stands_behind stands (AreMade i (to_answer (e ∷ h) i)) {new = record old { log = e ∷ h }}
      (record { out = may.out; of_lease = may.moment; due = due; once = may.unticked }) (never_both may.going)
      (λ legal. moved (assumption) tt legal (still_shifts e old.places tt) (none_put (e ∷ h)) (λ j. (refl, refl)) refl (assumption stands))
      (λ legal. record { others = λ j other. stays_kept (keeper_at old.keepers.items j) h j e legal (λ here. other (sym here)) (stands.keeps.others j other); made = go (keeper_at old.keepers.items i) all legal stands.keeps.made })
      (λ legal. aside_known observe e h old.states tt legal stands.states) (λ _. aside_kept old.balance h e tt stands.balance) refl refl
    where
      go : (o : Option Kept) → to_answer (Tick i now ∷ old.log) i ≡ record { step = ticks now; copies = [] } ∷ [] → IsLegal (Tick i now ∷ old.log) →
          IsSomeAnd o (λ k. HasMade k old.log i (record { step = ticks now; copies = [] } ∷ [])) →
          IsSomeAnd o (λ k. HasMade k (Tick i now ∷ old.log) i (to_answer (Tick i now ∷ old.log) i))
      go None all legal is = absurd is
      go (Some k) all legal is =
          subst (HasMade k (Tick i now ∷ old.log) i) (sym all) (made_keeps k old.log i (Tick i now) (record { step = ticks now; copies = [] } ∷ []) legal tt is)

-- THE ANSWER
pub unanswered_none : (h : Record) (i : ℕ) (outputs : List Output) (discarded kept : List ℕ) → unanswered (Answer i (notes_of outputs) discarded kept ∷ h) i ≡ []
unanswered_none h i outputs discarded kept = if_self i [] (unanswered h i)

-- outputs are those of an entry that has them so
noted_so : (outputs : List Output) → AreNoted outputs (notes_of outputs)
noted_so [] = tt
noted_so (output ∷ rest) = (refl, refl, noted_so rest)

pub the_one : (F : Kept → Type 0) (o : Option Kept) → IsSomeAnd o F → (k : Kept) × ((o ≡ Some k) × F k)
the_one F None is = absurd is
the_one F (Some k) is = (k, (refl, is))

-- where what the last answer discarded is spent, the next one may follow
not_zero : (n : ℕ) → (n ≡ 0 → ⊥) → (n == 0) ≡ false
not_zero n some = elim (cases_lt 0 n) [ inl more ↦ grind (arith, nat_tests, more) | inr none ↦ absurd (some (omega (arith, none))) ]

none_unspent : (h : Record) (copies : List ℕ) → ((c : ℕ) → 0 < count c copies → times_spent h c ≡ 0 → ⊥) → unspent_of h copies ≡ false
none_unspent h [] spent = refl
none_unspent h (c ∷ cs) spent =
    let here : 0 < count c (c ∷ cs) = let one = if_self {X = ℕ} c 1 0 in omega (arith, one) in
    or_from (times_spent h c == 0) (unspent_of h cs) (not_zero (times_spent h c) (spent c here)) (none_unspent h cs (λ d some. spent d (omega (arith, some))))

none_owed : (h : Record) (i : ℕ) → OwesOnly h i [] → owes_discards h i ≡ false
none_owed h i owed = none_unspent h (last_discarded h i) (λ c some unspent. let none = owed c some unspent in absurd (omega (arith, none)))

-- the rule by which an instance answers that merges
rule_of_runs : (h : Record) (i : ℕ) → Runs h i → (rule : Rule) × RunsBy h i rule
rule_of_runs h i (inl reducing) = (reduces reducing.0, reducing.1)
rule_of_runs h i (inr host) = (is_free, host_rule h i host)

-- what a keeper made may be noted, also where its instance holds nothing
may_answer_by : (k : Kept) (h : Record) (i : ℕ) → IsLegal h → is_out h i ≡ true → HasMade k h i (to_answer h i) → Runs h i →
    (unanswered h i ≡ [] → MayFlush h i (kept_behind h i k.shelf.outputs k.discarded)) →
    MayAnswer h i (notes_of k.shelf.outputs) (numbers_of k.discarded) (kept_behind h i k.shelf.outputs k.discarded)
may_answer_by k h i legal out made runs flushes =
    let notes = made_may_be_noted k h i legal made in
    let rule = rule_of_runs h i runs in
    record {
      out = out;
      settled = none_owed h i made.settled;
      rule = rule.0;
      follows = rule.1;
      made = notes.made rule.0 rule.1;
      refused = notes.refused rule.0 rule.1;
      same = notes.same;
      in_order = ap (λ (ps : List (List ℕ)). without (put_out (notes_of k.shelf.outputs) ++ numbers_of k.discarded) (joined ps)) (sym (stands_at h (Held i) legal));
      flush = flushes;
    }

module _ {P : Type 0} {observe : P → Observation} {old : EngineState P} (slots : Vec (Option Kept)) (i : ℕ) (outputs : List Output)
    (stands : StandsMade observe i (to_answer old.log i) old) (may : MayNoteMade i old) (one : OneKeeper (PutsOut outputs) i old.keepers.items slots.items) where
  found : (k : Kept) × ((keeper_at old.keepers.items i ≡ Some k) × HasMade k old.log i (to_answer old.log i))
  found = the_one (λ k. HasMade k old.log i (to_answer old.log i)) (keeper_at old.keepers.items i) stands.keeps.made

  abbrev k : Kept
  k = found.0

  put : (is : Kept) × ((keeper_at slots.items i ≡ Some is) × PutsOut outputs k is)
  put = the_one (PutsOut outputs k) (keeper_at slots.items i) (rw found.1.0 at one.one)

  same : outputs ≡ k.shelf.outputs
  same = put.1.1.outputs_are

  -- the copies that it discards, of which the keeper still has all
  abbrev gone : List Copy
  gone = discarded_of (keeper_at slots.items i)

  left : put.0.discarded ≡ gone
  left = sym (ap discarded_of put.1.0)

  same_gone : gone ≡ k.discarded
  same_gone = sym left ∙ put.1.1.discarded

  abbrev kept : List ℕ
  kept = kept_behind old.log i outputs gone

  -- the entry
  abbrev e : Entry
  e = answer_of old.log i outputs gone

  row : MayAnswer old.log i (notes_of outputs) (numbers_of gone) kept
  row = rw (same, same_gone) (may_answer_by k old.log i stands.legal may.out found.1.1 may.runs (λ none. rw found.1.0 at (may.flush none)))

  may_note : MayBeNoted old.log i k.shelf.outputs k.discarded
  may_note = made_may_be_noted k old.log i stands.legal found.1.1

  known : IsLegal (e ∷ old.log) → AreKnown (e ∷ old.log) (parcels_out outputs)
  known = rw (same, same_gone) (outputs_known k old.log i (kept_behind old.log i k.shelf.outputs k.discarded) found.1.1)

  -- each parcel that is discarded counts once
  pub many_dropped : {dropped : ℕ} → IsSomeAnd (keeper_at old.keepers.items i)
      (λ k. (h : Record) (j : ℕ) (given : List Input) → IsLegal h → HasMade k h j given → dropped ≡ count_by (is_first h j) (numbers_of k.discarded)) →
      dropped ≡ count_by (is_first old.log i) (numbers_of gone)
  many_dropped many = rw same_gone ((rw found.1.0 at many) old.log i (to_answer old.log i) stands.legal found.1.1)

  -- the keeper is that of the record with it, but still has what is discarded
  put_discarding : IsLegal (e ∷ old.log) → IsDiscarding put.0 (e ∷ old.log) i
  put_discarding legal = record {
    keeps = subst (λ (cs : List Copy). IsLegal (Answer i (notes_of outputs) (numbers_of cs) kept ∷ old.log) → Keeps put.0 (Answer i (notes_of outputs) (numbers_of cs) kept ∷ old.log) i)
        (sym same_gone) (put.1.1.keeps old.log i kept found.1.1) legal;
    fit = put.1.1.stays.fit ∙ found.1.1.fit;
    among = λ c l. rw (if_self i (numbers_of gone) (last_discarded old.log i)) (rw left at l);
  }

  discarding : IsLegal (e ∷ old.log) → AreDiscarding i slots.items (e ∷ old.log)
  discarding legal = record {
    others = λ j other. rw (one.others j other) (stays_kept (keeper_at old.keepers.items j) old.log j e legal (λ here. other (sym here)) (stands.keeps.others j other));
    one = subst (λ (o : Option Kept). IsSomeAnd o (λ is. IsDiscarding is (e ∷ old.log) i)) (sym put.1.0) (put_discarding legal);
    unticked = ap has_tick (unanswered_none old.log i outputs (numbers_of gone) kept);
    going = may.going;
  }

  -- the engine's state stands for the record with it, but for what it discards
  pub answered_made : {places : List Row} {states : List (InstanceState P)} → Behind old.log e (Knows observe states) → PutsOutAt i outputs old.places places →
      length places ≡ length old.places → length states ≡ length old.states → SameCapacities old.places places →
      StandsDiscarding observe i (record old { places = places; keepers = slots; states = states; log = e ∷ old.log })
  answered_made {places} {states} knows puts rows size capacities =
      let h = old.log in
      let shifts = puts.answered (notes_of outputs) (numbers_of gone) kept (noted_so outputs) (rw same may_note.filled) (stands.keepers.apart i may.joins) in
      stands_behind stands (AreDiscarding i) {new = record old { places = places; keepers = slots; states = states; log = e ∷ h }} row (never_both may.going)
      (λ legal.
      let rests = moved (assumption) (λ alone. never_both alone may.joins) legal shifts (known legal) capacities rows (assumption stands) in
      record {
        places = rests.places;
        run = rests.run;
        kept = rests.kept;
        capacities = rests.capacities;
        begun = rests.begun;
        keepers = one_keepers i old.keepers.items slots.items places (e ∷ h) one rests.keepers;
      })
      discarding knows (λ _. aside_kept old.balance h e tt stands.balance) rows size

-- what made something is fit
pub made_fit : (h : Record) (i : ℕ) (given : List Input) (o : Option Kept) → IsSomeAnd o (λ k. HasMade k h i given) → IsSomeAnd o (λ k. k.fit ≡ true)
made_fit h i given None made = absurd made
made_fit h i given (Some k) made = made.fit

-- there is room for what is taken off, as for what was put out
pub room_put : (rows : List Row) (i : ℕ) (outputs : List Output) (o n : Option Kept) → IsSomeAnd o (λ was. IsSomeAnd n (λ is. PutsOut outputs was is)) →
    IsSomeAnd o (λ k. HasOutputRoomFor rows i (length k.shelf.outputs)) → HasOutputRoomFor rows i (length outputs)
room_put rows i outputs None n puts room = absurd puts
room_put rows i outputs (Some was) None puts room = absurd puts
room_put rows i outputs (Some was) (Some now) puts room = rw puts.outputs_are room

pub many_noted : (outputs : List Output) → length (notes_of outputs) ≡ length outputs
many_noted outputs = length-map outputs (λ (output : Output). record { ports = output.ports; copies = numbers_of output.parcel.finalizers; event = output.parcel.event })

-- an instance that merges has a keeper
pub keeper_there : (slots : List (Option Kept)) (rows : List Row) (h : Record) (i : ℕ) → AreKeepers slots rows h → joins_at h i ≡ true → IsKeeper (λ k. Unit {0}) slots i
keeper_there slots rows h i are joins = go (keeper_at slots i) (are.whose i)
  where
    go : (o : Option Kept) → is_some o ≡ joins_at h i → IsSomeAnd o (λ k. Unit {0})
    go None is = let no = is ∙ joins in cc
    go (Some k) is = tt

module _ {P : Type 0} {observe : P → Observation} {old : EngineState P} {slots : Vec (Option Kept)} (i : ℕ) (stands : Stands observe old) where
  -- all that was taken was answered
  pub taken_made : (now : ℕ) → now ≡ lease_now old.log i → OneKeeper (AnswersTaken now) i old.keepers.items slots.items →
      StandsMade observe i (taken_in old.log i) (record old { keepers = slots })
  taken_made now moment one = made_one i (taken_in old.log i) stands one (λ was is answers kept. answers.made old.log i moment kept.keeps (kept.cleared answers.had))

  -- a tick was answered where nothing was taken
  pub tick_made : (now : ℕ) → OneKeeper (Ticks now) i old.keepers.items slots.items → taken_in old.log i ≡ [] →
      StandsMade observe i (record { step = ticks now; copies = [] } ∷ []) (record old { keepers = slots })
  tick_made now one none = made_one i (record { step = ticks now; copies = [] } ∷ []) stands one
      (λ was is acts kept. acts.made old.log i [] (none_taken was old.log i kept.keeps acts.had (kept.cleared acts.had) none))

  -- and so was the flush
  pub flush_made : OneKeeper Flushes i old.keepers.items slots.items → taken_in old.log i ≡ [] →
      StandsMade observe i (flush ∷ []) (record old { keepers = slots })
  flush_made one none = made_one i (flush ∷ []) stands one
      (λ was is flushes kept. flushes.made old.log i [] (none_taken was old.log i kept.keeps flushes.had (kept.cleared flushes.had) none))

-- WHO MAY NOTE IT
-- a tick waits for an answer
pub tick_waits : (h : Record) (i now : ℕ) → unanswered (Tick i now ∷ h) i ≡ [] → ⊥
tick_waits h i now none =
    let some = sym (ap (λ (xs : List Input). xs ++ unanswered h i) (if_self i (record { step = ticks now; copies = [] } ∷ []) [])) ∙ none in cc

-- an instance that holds something answers by a rule,
pub made_runs : (h : Record) (i : ℕ) (o : Option Kept) → IsLegal h → IsSomeAnd o (λ k. HasMade k h i (to_answer h i)) → at h (Held i) ≢ [] → Runs h i
made_runs h i None legal made holds = absurd made
made_runs h i (Some k) legal made holds = (made_may_be_noted k h i legal made).runs holds

-- and so does one of which a tick is due
free_is_host : (s : Settings) (tests : List Test) → rule_of s tests ≡ Some is_free → s ≡ settings.Host
free_is_host settings.Host tests is = refl
free_is_host other tests is = cc

pub due_runs : (h : Record) (i now : ℕ) → IsTickDue h i now → Runs (Tick i now ∷ h) i
due_runs h i now due = go due.rule due.follows due.reached
  where
    go : (rule : Rule) → RunsBy h i rule → IsDue rule (steps h i) now → Runs (Tick i now ∷ h) i
    go (judges judge) follows reached = absurd reached
    go (reduces s) follows reached = inl (
      s,
      record {
        component = follows.component;
        runs = follows.runs;
        transform = follows.transform;
        tests = follows.tests;
        mean = follows.mean;
        ruled = follows.ruled;
      },
    )
    go is_free follows reached = inr (record {
      component = follows.component;
      runs = follows.runs;
      transform = follows.transform;
      set = free_is_host follows.component.settings follows.tests follows.ruled;
    })

-- behind a flush nothing is kept
pub flushed_all : (h : Record) (i : ℕ) (o : Option Kept) → IsLegal h → IsSomeAnd o (λ k. HasMade k h i (flush ∷ [])) → IsSomeAnd o (λ k. HoldsNone k.maker) →
    MayFlush h i [] → IsSomeAnd o (λ k. MayFlush h i (kept_behind h i k.shelf.outputs k.discarded))
flushed_all h i None legal made none may = absurd made
flushed_all h i (Some k) legal made none may = rw (kept_nothing k h i (flush ∷ []) legal made none) may

-- WHAT WAS NOTED
-- what is taken off is what was noted, and what the keeper still has is what that discards
pub noted_made : (h new : Record) (i : ℕ) (outputs : List Output) (o n : Option Kept) → IsSomeAnd o (λ was. IsSomeAnd n (λ is. PutsOut outputs was is)) →
    new ≡ answer_of h i outputs (discarded_of n) ∷ h → IsSomeAnd o (λ k. new ≡ answer_of h i k.shelf.outputs k.discarded ∷ h)
noted_made h new i outputs None n puts noted = absurd puts
noted_made h new i outputs (Some was) None puts noted = absurd puts
noted_made h new i outputs (Some was) (Some now) puts noted = rw (puts.outputs_are, puts.discarded) at noted

-- WHETHER IT IS FIT
-- one keeper is changed twice
one_both : {F G H : Kept → Kept → Type 0} (i : ℕ) (old mid new : List (Option Kept)) → ((a b c : Kept) → F a b → G b c → H a c) → OneKeeper F i old mid →
    OneKeeper G i mid new → OneKeeper H i old new
one_both {F} {G} {H} i old mid new both first second = record {
  one = go (keeper_at old i) (keeper_at mid i) (keeper_at new i) first.one second.one;
  others = λ j other. second.others j other ∙ first.others j other;
  many = second.many ∙ first.many;
}
  where
    go : (o m n : Option Kept) → IsSomeAnd o (λ was. IsSomeAnd m (λ is. F was is)) → IsSomeAnd m (λ was. IsSomeAnd n (λ is. G was is)) →
        IsSomeAnd o (λ was. IsSomeAnd n (λ is. H was is))
    go None m n f g = absurd f
    go (Some a) None n f g = absurd f
    go (Some a) (Some b) None f g = absurd g
    go (Some a) (Some b) (Some c) f g = both a b c f g

-- less is said of it
pub one_wider : {F G : Kept → Kept → Type 0} (i : ℕ) (old new : List (Option Kept)) → ((was is : Kept) → F was is → G was is) → OneKeeper F i old new →
    OneKeeper G i old new
one_wider {F} {G} i old new wider one = record { one = go (keeper_at old i) (keeper_at new i) one.one; others = one.others; many = one.many }
  where
    go : (o n : Option Kept) → IsSomeAnd o (λ was. IsSomeAnd n (λ is. F was is)) → IsSomeAnd o (λ was. IsSomeAnd n (λ is. G was is))
    go None n is = absurd is
    go (Some was) None is = absurd is
    go (Some was) (Some now) is = wider was now is

-- it made something, and that was noted
pub fit_both : {F : Kept → Kept → Type 0} (i : ℕ) (old mid new : List (Option Kept)) → ((was is : Kept) → F was is → StaysFit was is) → OneKeeper F i old mid →
    OneKeeper StaysFit i mid new → OneKeeper StaysFit i old new
fit_both i old mid new stays =
    one_both i old mid new (λ a b c first second. record { fit = second.fit ∙ (stays a b first).fit; room = second.room ∙ (stays a b first).room })

-- what is so is so of a fault
pub on_error : {X E F : Type 0} (r : Result X E) → F → OnErr r F
on_error (Ok x) is = tt
on_error (Err e) is = is

-- or no memory was found for that
pub fit_then : {F : Kept → Kept → Type 0} (i : ℕ) (old mid new : List (Option Kept)) → ((was is : Kept) → F was is → StaysFit was is) → OneKeeper F i old mid →
    OneKeeper FailsShort i mid new → OneKeeper GetsUnfit i old new
fit_then i old mid new stays =
    one_both i old mid new (λ a b c first second. record { unfit = second.gets.unfit; room = second.gets.room ∙ (stays a b first).room })

-- A TAKE
-- an instance that merges is no sink
joins_none : (o : Option Component) → (elim o [ None ↦ false | Some c ↦ is_transform c && is_joining c.settings ]) ≡ true → (elim o [ None ↦ false | Some c ↦ is_sink c ]) ≡ true → ⊥
joins_none None joins sink = cc
joins_none (Some c) joins sink = go c.class joins sink
  where
    go : (class : Class) → ((elim class [ Source ↦ false | Transform ↦ true | Sink ↦ false ]) && is_joining c.settings) ≡ true →
        (elim class [ Source ↦ false | Transform ↦ false | Sink ↦ true ]) ≡ true → ⊥
    go Source joins sink = cc
    go Transform joins sink = cc
    go Sink joins sink = cc

-- and a sink doesn't merge
pub sink_alone : (h : Record) (i : ℕ) → sink_at h i ≡ true → joins_at h i ≡ false
sink_alone h i sink = go (joins_at h i) refl
  where
    go : (b : Bool) → joins_at h i ≡ b → joins_at h i ≡ false
    go false is = is
    go true is = absurd (joins_none (component_of h i) is sink)

-- whether it holds nothing is what its keeper says
pub none_kept : (h : Record) (i : ℕ) (none : Bool) (o : Option Kept) → IsLegal h → IfSome o (λ k. IsKept k h i) →
    IsSomeAnd o (λ k. (g : Record) → IsLegal g → Keeps k g i → (none ≡ true) ↔ (at g (Held i) ≡ [])) → none ≡ is_empty (at h (Held i))
none_kept h i none None legal keeps exact = absurd exact
none_kept h i none (Some k) legal kept exact = go none (at h (Held i)) (exact h legal kept.keeps)
  where
    go : (b : Bool) (xs : List (List ℕ)) → (b ≡ true) ↔ (xs ≡ []) → b ≡ is_empty xs
    go true [] same = refl
    go true (x ∷ xs) same = let no = same.0 refl in cc
    go false [] same = let no = same.1 refl in cc
    go false (x ∷ xs) same = refl

module _ {P : Type 0} {observe : P → Observation} {old : EngineState P} (slots : Vec (Option Kept)) (i stage : ℕ) (parcel : Parcel) {places : List Row} (stands : Stands observe old)
    (joins : joins_at old.log i ≡ true) (takes : Takes (Contents i stage) parcel old.places places) (one : OneKeeper (TakesIn parcel) i old.keepers.items slots.items) where
  are : numbers_of parcel.finalizers ≡ oldest (at old.log (Contents i stage))
  are = oldest_is stands (Contents i stage) takes.was

  abbrev takes_it : Entry
  takes_it = Take i stage (oldest (at old.log (Contents i stage)))

  kept_then : IsLegal (takes_it ∷ old.log) → AreKept slots.items (takes_it ∷ old.log)
  kept_then legal j = elim (cases_eq j i) [
    | inl here ↦ rw here
        (some_if (λ k. IsKept k (takes_it ∷ old.log) i) (keeper_at slots.items i)
        (one_is (TakesIn parcel) (λ k. IsKept k old.log i) (λ k. IsKept k (takes_it ∷ old.log) i) (keeper_at old.keepers.items i) (keeper_at slots.items i) one.one (stands.keeps i)
        (λ was is takes_in had. record {
          unticked = ticks_stay old.log i takes_it tt had.unticked;
          cleared = λ fit. let fit_before = sym takes_in.stays.fit ∙ fit in takes_in.discarded fit_before ∙ had.cleared fit_before;
          keeps = subst (λ copies. IsLegal (Take i stage copies ∷ old.log) → Keeps is (Take i stage copies ∷ old.log) i) are
              (λ before. takes_in.keeps old.log i stage had.keeps before (taken_known old.log (Contents i stage) parcel old.places places takes stands.places)) legal;
        })))
    | inr other ↦ rw (one.others j other) (stays_kept (keeper_at old.keepers.items j) old.log j takes_it legal (λ here. other (sym here)) (stands.keeps j))
  ]

  pub kept_step : {states : List (InstanceState P)} {log : Record} → MayTakeNow old.log i → first_filled old.log i ≡ Some stage → log ≡ takes_it ∷ old.log →
      Shifts (Take i stage (numbers_of parcel.finalizers)) [] old.places places → Behind old.log takes_it (Knows observe states) →
      length places ≡ length old.places → length states ≡ length old.states → SameCapacities old.places places →
      Steps observe takes_it old (record old { places = places; keepers = slots; states = states; log = log })
  kept_step may first noted shifts knows rows size capacities =
      let oldest_first = is_oldest stands (Contents i stage) takes.was in
      let unfilled : sink_at old.log i ≡ true → is_full_batch old.log i ≡ false = λ sink. absurd (joins_none (component_of old.log i) joins sink) in
      step stands (assumption (first, unfilled, may, rw are at oldest_first)) (never_both may.going) noted
      (λ legal.
      let rests = moved (assumption) tt legal (rw are at shifts) (none_put (takes_it ∷ old.log)) capacities rows (assumption stands) in
      record {
        places = rests.places;
        run = rests.run;
        kept = rests.kept;
        capacities = rests.capacities;
        begun = rests.begun;
        keepers = one_keepers i old.keepers.items slots.items places (takes_it ∷ old.log) one rests.keepers;
      })
      kept_then knows (λ _. aside_kept old.balance old.log takes_it tt stands.balance) rows size

-- AT REST
-- the moment of its next check, where it is at rest
pub checks_of : (k : Kept) (o : Option ℕ) → Rests k → (k.fit ≡ true → (h : Record) (i : ℕ) → Keeps k h i → IsDueBehind o h i []) → IfSome o (λ moment. ChecksAt moment k)
checks_of k None rests due = tt
checks_of k (Some moment) rests due = record { none = rests.none; due = due rests.fit }

checks_so : (h : Record) (i moment : ℕ) (o : Option Kept) → IfSome o (λ k. IsKept k h i) → IsSomeAnd o (ChecksAt moment) →
    ((now : ℕ) → moment ≤ now → IsTickDue h i now) × (taken_in h i ≡ [])
checks_so h i moment None is_kept checks = absurd checks
checks_so h i moment (Some k) is_kept checks =
    let none = checks.none h i is_kept.keeps in
    (λ now later. tick_is_due h i moment now is_kept.unticked (subst (IsDueBehind (Some moment) h i) (sym none) (checks.due h i is_kept.keeps)) later, none)

pub checks_all : (h : Record) (i : ℕ) (moment : Option ℕ) (o : Option Kept) → IfSome o (λ k. IsKept k h i) → IfSome moment (λ m. IsSomeAnd o (ChecksAt m)) →
    IfSome moment (λ m. (now : ℕ) → m ≤ now → IsTickDue h i now) × IfSome moment (λ m. taken_in h i ≡ [])
checks_all h i None o is_kept checks = (tt, tt)
checks_all h i (Some m) o is_kept checks = checks_so h i m o is_kept checks

-- and there is no other moment
pub checks_only : (h : Record) (i : ℕ) (moment : Option ℕ) (o : Option Kept) → IfSome o (λ k. IsKept k h i) → IsSomeAnd o CanAnswer → IsSomeAnd o (ChecksOnly moment) →
    (RunsHost h i → ⊥) → taken_in h i ≡ [] → (now : ℕ) → IsTickDue h i now → IsSomeAnd moment (λ m. m ≤ now)
checks_only h i moment None is_kept fit checks no_host none now tick = absurd fit
checks_only h i moment (Some k) is_kept fit checks no_host none now tick =
    no_tick_before k h i now moment fit is_kept.keeps no_host is_kept.unticked (subst (IsDueBehind moment h i) (sym none) (checks fit h i is_kept.keeps none)) tick
