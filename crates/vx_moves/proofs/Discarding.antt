-- How what the last answer of an instance that merges discarded is spent.
use Rattle.std.proofs.Common.{◌≡◌, ◌∙◌, ℕ, ◌<◌, Bool, true, false, List, [], ◌∷◌, Option, Some, None, IfSome, length, inl, inr, refl, sym, ap, subst, arith}
use Rattle.std.specs.Prelude.{◌==◌, if◌then◌else◌, IsSomeAnd}
use Rattle.std.specs.Global.{Vec}
use Rattle.std.proofs.lemmas.Bool.{cases_eq, cases_lt}
use Rattle.vx_ends.specs.Observation.{Observation}
use Rattle.vx_status.specs.declared.outcome.Outcome.TheVariants.{Filtered}
use Rattle.vx_status.specs.declared.batch_status.BatchStatus.{BatchStatus}
use Rattle.vx_ledger.specs.Copies.{Copy, numbers_of}
use Rattle.vx_ledger.specs.Ledger.{Ledger}
use Rattle.vx_record.specs.declared.entry.Entry.{Entry}
use Rattle.vx_record.specs.declared.entry.Entry.TheVariants.{Spent, Notice, Answer}
use Rattle.vx_record.specs.declared.output.Output.{Output}
use Rattle.vx_record.specs.Records.{Record}
use Rattle.vx_record.specs.Additions.{OnlyAdds}
use Rattle.vx_record.specs.Copies.{count, joined}
use Rattle.vx_record.specs.Inputs.{unanswered}
use Rattle.vx_record.specs.Answering.{MayFlush}
use Rattle.vx_record.specs.Legal.{IsLegal, Follows}
use Rattle.vx_record.specs.Lists.{shrunk}
use Rattle.vx_record.specs.Owing.{last_discarded}
use Rattle.vx_record.specs.Places.Place.{Held}
use Rattle.vx_record.specs.Shifts.{at}
use Rattle.vx_record.proofs.Adding.{adds_both, adds_none, adds_one, adds_wider, carry}
use Rattle.vx_record.proofs.Answers.{answer_holds, count-shrunk}
use Rattle.vx_record.proofs.Counts.{unless-none, unless-some}
use Rattle.vx_record.proofs.Shifting.{stands_at}
use Rattle.vx_places.proofs.Recorded.{stands_there}
use Rattle.vx_instances.specs.declared.state.InstanceState.{InstanceState}
use Rattle.vx_instances.specs.Staying.{EachState, Stays}
use Rattle.vx_tasks.specs.Joining.{joins_at}
use Rattle.vx_keeping.specs.Answers.{notes_of, kept_behind}
use Rattle.vx_keeping.specs.Given.{SameCopies}
use Rattle.vx_keeping.specs.Kept.{Kept}
use Rattle.vx_keeping.specs.Keeping.{IsMade, OwesOnly}
use Rattle.vx_keeping.proofs.Accounting.{held_none, if_self}
use Rattle.vx_keeping.proofs.Going.{keeps_stays}
use Rattle.vx_keeping.proofs.Resting.{ticks_stay}
use Rattle.vx_keeping.proofs.Weights.{same_counts}
use Rattle.vx_moves.specs.declared.engine.EngineState.{EngineState}
use Rattle.vx_moves.specs.Keepers.{keeper_at, AreKept, AreKeepers, IsKept, OneKeeper, StaysFit, TakesOutOne}
use Rattle.vx_moves.specs.Merging.{IsDiscarding, AreDiscarding, StandsDiscarding, SpendsDiscarded, IsMergeOf, HasAnswered, HasFlushed, answer_of}
use Rattle.vx_moves.specs.Spends.{IsSpendOf, IsSettled}
use Rattle.vx_moves.specs.Stands.{Stands}
use Rattle.vx_moves.proofs.Keepers.{stays_kept}
use Rattle.vx_moves.proofs.Leaving.{capacities_both, each_both, each_stays}
use Rattle.vx_moves.proofs.Losing.{is_there, lost_step, IsThere, LosesCopy}
use Rattle.vx_moves.proofs.Merging.{fit_both, one_is, one_wider, some_if}
use Rattle.vx_moves.proofs.Spending.{behind}
use Rattle.vx_moves.proofs.Stepping.{never_both}

-- ONE COPY
-- with a copy out, what is left is as often there
module _ (copy : Copy) (old new : List Copy) (same : SameCopies old (copy ∷ new)) where
  one_of : 0 < count copy.number (numbers_of old)
  one_of =
      let all = same_counts old (copy ∷ new) same copy.number in
      let one = if_self {X = ℕ} copy.number 1 0 in
      omega (arith, all, one)

  some_of : (c : ℕ) → 0 < count c (numbers_of new) → 0 < count c (numbers_of old)
  some_of c l = let all = same_counts old (copy ∷ new) same c in omega (arith, all, l)

-- it is there, and the last answer discarded it
record WasDiscarded (h : Record) (i : ℕ) (copy : Copy) : Type 0 where
  there : 0 < count copy.number (joined (at h (Held i)))
  made : IsMade h copy
  among : 0 < count copy.number (last_discarded h i)

-- a notice leaves what is left
noticed : (h : Record) (i : ℕ) (slots : List (Option Kept)) (b : ℕ) (status : BatchStatus) → IsLegal (Notice b status ∷ h) → AreDiscarding i slots h →
    AreDiscarding i slots (Notice b status ∷ h)
noticed h i slots b status legal were = record {
  others = λ j other. stays_kept (keeper_at slots j) h j (Notice b status) legal tt (were.others j other);
  one = go (keeper_at slots i) were.one;
  unticked = ticks_stay h i (Notice b status) tt were.unticked;
  going = were.going;
}
  where
    go : (o : Option Kept) → IsSomeAnd o (λ k. IsDiscarding k h i) → IsSomeAnd o (λ k. IsDiscarding k (Notice b status ∷ h) i)
    go None is = absurd is
    go (Some k) is = record { keeps = keeps_stays k h i (Notice b status) legal tt is.keeps; fit = is.fit; among = is.among }

module _ {P : Type 0} {observe : P → Observation} {old : EngineState P} (slots : Vec (Option Kept)) (i : ℕ) (copy : Copy) (stands : StandsDiscarding observe i old)
    (joins : joins_at old.log i ≡ true) (one : OneKeeper (TakesOutOne copy) i old.keepers.items slots.items) where
  abbrev e : Entry
  e = Spent i copy.number Filtered

  found : WasDiscarded old.log i copy
  found = go (keeper_at old.keepers.items i) (keeper_at slots.items i) one.one stands.keeps.one
    where
      go : (o n : Option Kept) → IsSomeAnd o (λ was. IsSomeAnd n (λ is. TakesOutOne copy was is)) → IsSomeAnd o (λ k. IsDiscarding k old.log i) → WasDiscarded old.log i copy
      go None n is had = absurd is
      go (Some was) None is had = absurd is
      go (Some was) (Some now) is had = record {
        there = is.takes.there old.log i had.keeps.accounts;
        made = is.takes.made old.log i had.keeps.accounts;
        among = had.among copy.number (one_of copy was.discarded now.discarded is.takes.discarded);
      }

  pub may_be_discarded : IsThere old.log i Filtered copy
  may_be_discarded = is_there slots i copy Filtered stands joins found.there found.made found.among (never_both stands.keeps.going)

  discarding_then : IsLegal (e ∷ old.log) → AreDiscarding i slots.items (e ∷ old.log)
  discarding_then legal = record {
    others = λ j other. rw (one.others j other) (stays_kept (keeper_at old.keepers.items j) old.log j e legal (λ here. absurd (other (sym here))) (stands.keeps.others j other));
    one = one_is (TakesOutOne copy) (λ k. IsDiscarding k old.log i) (λ k. IsDiscarding k (e ∷ old.log) i) (keeper_at old.keepers.items i) (keeper_at slots.items i) one.one
        (some_if (λ k. IsDiscarding k old.log i) (keeper_at old.keepers.items i) stands.keeps.one)
        (λ was is takes had. record {
          keeps = takes.takes.leads old.log i Filtered had.keeps legal;
          fit = takes.stays.fit ∙ had.fit;
          among = λ c l. had.among c (some_of copy was.discarded is.discarded takes.takes.discarded c l);
        });
    unticked = ticks_stay old.log i e tt stands.keeps.unticked;
    going = stands.keeps.going;
  }

  -- where the spend of such a copy is settled, the engine's state stands but for what is left
  pub discarded_step : {log : Record} {account : Ledger} {states : List (InstanceState P)} → IsSettled observe e old.log log account states →
      length states ≡ length old.states → EachState Stays old.states states →
      LosesCopy (AreDiscarding i) observe i Filtered old (record old { keepers = slots; states = states; balance = account; log = log })
  discarded_step settled size stay =
      lost_step slots i copy Filtered stands joins found.there found.made found.among (never_both stands.keeps.going) one discarding_then
      (λ b status legal whose were. noticed (e ∷ old.log) i slots.items b status legal were) settled size stay

  pub discarded_spends : {log : Record} {account : Ledger} {states : List (InstanceState P)} → IsSettled observe e old.log log account states →
      length states ≡ length old.states → EachState Stays old.states states →
      SpendsDiscarded observe i old (record old { keepers = slots; states = states; balance = account; log = log })
  discarded_spends settled size stay =
      let lost = discarded_step settled size stay in
      let still = behind (λ k. joins_at k i ≡ true) joins (λ b status. joins) settled.noted in
      record {
        stands = lost.stands;
        joins = still;
        only = lost.only;
        fit = one_wider i old.keepers.items slots.items (λ was is takes. takes.stays) one;
        leaves = lost.leaves;
        size = lost.size;
      }

-- ALL
-- none was spent yet, or some, and then some more
pub discards_none : {P : Type 0} {observe : P → Observation} {old : EngineState P} (slots : Vec (Option Kept)) (i : ℕ) → slots.items ≡ old.keepers.items →
    StandsDiscarding observe i old → joins_at old.log i ≡ true → SpendsDiscarded observe i old (record old { keepers = slots })
discards_none {observe = observe} {old = old} slots i same stands joins =
    let keepers : AreKeepers slots.items old.places old.log = rw same stands.keepers in
    let keeps : AreDiscarding i slots.items old.log = rw same stands.keeps in
    let stays : StandsDiscarding observe i (record old { keepers = slots }) = assumption (keepers, keeps, stands) in
    record {
      stands = stays;
      joins = joins;
      only = adds_none (IsSpendOf i Filtered) old.log old.log refl;
      fit = record { one = rw same (go (keeper_at old.keepers.items i) stands.keeps.one); others = λ j other. ap (λ (items : List (Option Kept)). keeper_at items j) same; many = ap length same };
      leaves = record { states = each_stays old.states; capacities = λ j. (refl, refl); run = refl };
      size = refl;
    }
  where
    go : (o : Option Kept) → IsSomeAnd o (λ k. IsDiscarding k old.log i) → IsSomeAnd o (λ was. IsSomeAnd o (λ is. StaysFit was is))
    go None is = absurd is
    go (Some k) is = record { fit = refl; room = refl }

pub discards_more : {P : Type 0} {observe : P → Observation} {old mid new : EngineState P} (i : ℕ) → SpendsDiscarded observe i old mid → SpendsDiscarded observe i mid new → SpendsDiscarded observe i old new
discards_more {old = old} {mid = mid} {new = new} i first second = record {
  stands = second.stands;
  joins = second.joins;
  only = adds_both (IsSpendOf i Filtered) old.log mid.log new.log first.only second.only;
  fit = fit_both i old.keepers.items mid.keepers.items new.keepers.items (λ was is stays. stays) first.fit second.fit;
  leaves = record {
    states = each_both old.states mid.states new.states first.leaves.states second.leaves.states;
    capacities = capacities_both old.places mid.places new.places first.leaves.capacities second.leaves.capacities;
    run = second.leaves.run ∙ first.leaves.run;
  };
  size = second.size ∙ first.size;
}

module _ {P : Type 0} {observe : P → Observation} {old : EngineState P} (i : ℕ) (stands : StandsDiscarding observe i old) where
  -- where nothing is left of it, the engine's state stands
  abbrev IsLast : Kept → Type 0
  IsLast k = k.discarded ≡ []

  pub all_discarded : IsSomeAnd (keeper_at old.keepers.items i) IsLast → Stands observe old
  all_discarded none =
      let keeps : AreKept old.keepers.items old.log = λ j. elim (cases_eq j i) [
        | inl here ↦ rw here (last (keeper_at old.keepers.items i) stands.keeps.one none)
        | inr other ↦ stands.keeps.others j other
      ] in
      assumption (keeps, stands)
    where
      last : (o : Option Kept) → IsSomeAnd o (λ k. IsDiscarding k old.log i) → IsSomeAnd o IsLast → IfSome o (λ k. IsKept k old.log i)
      last None is none = tt
      last (Some k) is none = record { keeps = is.keeps; cleared = λ fit. none; unticked = stands.keeps.unticked }

  pub all_spent : IsSomeAnd (keeper_at old.keepers.items i) IsLast → OwesOnly old.log i []
  all_spent none = go (keeper_at old.keepers.items i) stands.keeps.one none
    where
      go : (o : Option Kept) → IsSomeAnd o (λ k. IsDiscarding k old.log i) → IsSomeAnd o IsLast → OwesOnly old.log i []
      go None is none = absurd is
      go (Some k) is none = λ c some unspent. subst (λ (cs : List Copy). 0 < count c (numbers_of cs)) none ((is.keeps.abreast is.fit).owed c some unspent)

-- BEHIND THE SPENDS
-- what each spend keeps, and each notice, all of them keep
module _ (i : ℕ) (F : Record → Type 0) (spent : (h : Record) (c : ℕ) → F h → F (Spent i c Filtered ∷ h)) (noticed_too : (h : Record) (b : ℕ) (status : BatchStatus) → F h → F (Notice b status ∷ h)) where
  each_keeps : (h : Record) (e : Entry) → Follows h e → IsSpendOf i Filtered h e → F h → F (e ∷ h)
  each_keeps h (Spent j c outcome) follows kind was = rw (kind.0, kind.1) (spent h c was)
  each_keeps h (Notice b status) follows kind was = noticed_too h b status was
  each_keeps h other follows kind was = absurd kind

  spends_keep : (old new : Record) → OnlyAdds (IsSpendOf i Filtered) old new → F old → F new
  spends_keep old new only was = carry (IsSpendOf i Filtered) F each_keeps old new only was

-- so nothing waits for an answer behind them where nothing did before
pub none_waits_then : (i : ℕ) (old new : Record) → OnlyAdds (IsSpendOf i Filtered) old new → unanswered old i ≡ [] → unanswered new i ≡ []
none_waits_then i = spends_keep i (λ h. unanswered h i ≡ []) (λ h c was. was) (λ h b status was. was)

-- and what is held was held before
still_held : (b : Bool) (c copy : ℕ) (ps : List (List ℕ)) → 0 < count c (joined (if b then shrunk (copy ∷ []) ps else ps)) → 0 < count c (joined ps)
still_held false c copy ps some = some
still_held true c copy ps some =
    let all = count-shrunk c (copy ∷ []) ps in
    elim (cases_lt 0 (count c (copy ∷ []))) [
      | inl gone ↦ let none = unless-some (count c (copy ∷ [])) (count c (joined ps)) gone in absurd (omega (arith, some, all, none))
      | inr other ↦ let same = unless-none (count c (copy ∷ [])) (count c (joined ps)) (omega (arith, other)) in omega (arith, some, all, same)
    ]

held_before : (i c : ℕ) (old new : Record) → OnlyAdds (IsSpendOf i Filtered) old new → 0 < count c (joined (at new (Held i))) → 0 < count c (joined (at old (Held i)))
held_before i c old new only = spends_keep i (λ h. 0 < count c (joined (at h (Held i))) → 0 < count c (joined (at old (Held i))))
    (λ h copy was some. was (still_held (i == i) c copy (at h (Held i)) some)) (λ h b status was. was) old new only (λ some. some)

discarded_still : (i : ℕ) (gone : List ℕ) (old new : Record) → OnlyAdds (IsSpendOf i Filtered) old new → last_discarded old i ≡ gone → last_discarded new i ≡ gone
discarded_still i gone = spends_keep i (λ h. last_discarded h i ≡ gone) (λ h c was. was) (λ h b status was. was)

-- an instance whose answer keeps nothing holds nothing once all is spent that this discards
module _ (h new : Record) (i : ℕ) (outputs : List Output) (gone : List ℕ) (legal : IsLegal (Answer i outputs gone [] ∷ h)) (legal_then : IsLegal new)
    (only : OnlyAdds (IsSpendOf i Filtered) (Answer i outputs gone [] ∷ h) new) (spent : OwesOnly new i []) where
  abbrev mid : Record
  mid = Answer i outputs gone [] ∷ h

  owed : (c : ℕ) → 0 < count c (joined (at new (Held i))) → 0 < count c []
  owed c some =
      let before = held_before i c mid new only some in
      let all = ap (λ (ps : List (List ℕ)). count c (joined ps)) (sym (stands_at mid (Held i) legal)) ∙ answer_holds h i outputs gone [] legal c in
      let among : 0 < count c gone = omega (arith, before, all) in
      let last = discarded_still i gone mid new only (if_self i gone (last_discarded h i)) in
      spent c (rw last among) (stands_there new c (Held i) legal_then some).0.2

  none : (c : ℕ) → count c (joined (at new (Held i))) ≡ 0
  none c = elim (cases_lt 0 (count c (joined (at new (Held i))))) [
    | inl some ↦ let no = owed c some in absurd (omega (arith, no))
    | inr few ↦ omega (arith, few)
  ]

  none_held : at new (Held i) ≡ []
  none_held = held_none new i legal_then none

-- WHAT WAS NOTED
-- what a keeper made is noted as its answer
abbrev IsNoted : Record → Record → ℕ → Kept → Type 0
IsNoted h mid i k = mid ≡ answer_of h i k.shelf.outputs k.discarded ∷ h

-- it leaves who merges
pub noted_joins : (h mid : Record) (i j : ℕ) (o : Option Kept) → IsSomeAnd o (IsNoted h mid i) → joins_at h j ≡ true → joins_at mid j ≡ true
noted_joins h mid i j None noted joins = absurd noted
noted_joins h mid i j (Some k) noted joins = rw noted joins

module _ (h mid new : Record) (i : ℕ) (legal : IsLegal mid) (only : OnlyAdds (IsSpendOf i Filtered) mid new) where
  -- the answer, and spends of what it discards, alone
  within : (k : Record) (e : Entry) → IsSpendOf i Filtered k e → IsMergeOf i k e
  within k (Spent j c outcome) kind = kind
  within k (Notice b status) kind = tt
  within k other kind = absurd kind

  pub answered_only : (o : Option Kept) → IsSomeAnd o (IsNoted h mid i) → OnlyAdds (IsMergeOf i) h new
  answered_only None noted = absurd noted
  answered_only (Some k) noted =
      let answer = adds_one (IsMergeOf i) h h mid (answer_of h i k.shelf.outputs k.discarded) (adds_none (IsMergeOf i) h h refl) ((rw noted at legal).0) refl noted in
      adds_both (IsMergeOf i) h mid new answer (adds_wider (IsSpendOf i Filtered) (IsMergeOf i) within mid new only)

  pub noted_answer : (o : Option Kept) → IsSomeAnd o (IsNoted h mid i) → OwesOnly new i [] → HasAnswered i h new
  noted_answer None noted spent = absurd noted
  noted_answer (Some k) noted spent = record {
    outputs = notes_of k.shelf.outputs;
    discarded = numbers_of k.discarded;
    kept = kept_behind h i k.shelf.outputs k.discarded;
    noted = rw noted at only;
    spent = spent;
  }

  pub noted_flush : (o : Option Kept) → IsLegal new → IsSomeAnd o (IsNoted h mid i) → IsSomeAnd o (λ k. MayFlush h i (kept_behind h i k.shelf.outputs k.discarded)) →
      OwesOnly new i [] → HasFlushed i h new
  noted_flush None legal_then noted may spent = absurd noted
  noted_flush (Some k) legal_then noted may spent =
      let all = noted ∙ ap (λ (kept : List ℕ). Answer i (notes_of k.shelf.outputs) (numbers_of k.discarded) kept ∷ h) may.emptied in
      let alone = rw all at only in
      record {
        outputs = notes_of k.shelf.outputs;
        discarded = numbers_of k.discarded;
        noted = alone;
        spent = spent;
        none = none_held h new i (notes_of k.shelf.outputs) (numbers_of k.discarded) (rw all at legal) legal_then alone spent;
      }
