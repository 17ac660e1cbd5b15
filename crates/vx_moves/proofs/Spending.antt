-- What a spend needs and leaves, of whatever place, and what many do.
use Rattle.std.proofs.Common.{subst, ◌≡◌, ◌∙◌, ℕ, ◌+◌, ◌<◌, Bool, true, false, List, [], ◌∷◌, ◌++◌, Option, Some, None, length, refl, sym, ap, inl, inr, arith}
use Rattle.std.specs.Prelude.{◌==◌, if◌then◌else◌, IsSomeAnd}
use Rattle.std.proofs.lemmas.Bool.Decides.{nat_tests}
use Rattle.std.proofs.lemmas.List.{append-nil, map-append, length-append}
use Rattle.vx_ends.specs.Observation.{Observation}
use Rattle.vx_value.specs.Texts.{is_empty}
use Rattle.vx_value.specs.declared.event.Event.{Event}
use Rattle.vx_status.specs.declared.outcome.Outcome.{Outcome}
use Rattle.vx_status.specs.declared.outcome.Outcome.TheVariants.{NewestDropped, NoConsumer, Abandoned}
use Rattle.vx_status.specs.declared.batch_status.BatchStatus.{BatchStatus}
use Rattle.vx_ledger.specs.Copies.{Copy, numbers_of}
use Rattle.vx_ledger.specs.Ledger.{Ledger}
use Rattle.vx_ledger.specs.declared.parcel.Parcel.{Parcel}
use Rattle.vx_record.specs.declared.entry.Entry.{Entry}
use Rattle.vx_record.specs.declared.entry.Entry.TheVariants.{Spent, Notice}
use Rattle.vx_record.specs.Records.{Record}
use Rattle.vx_record.specs.Abandoning.{abandoned, gives_up}
use Rattle.vx_record.specs.Additions.{OnlyAdds}
use Rattle.vx_record.specs.Copies.{all_of, count, joined, next_copy, spends, times_spent, IsLive}
use Rattle.vx_record.specs.Legal.{IsLegal, Follows}
use Rattle.vx_record.specs.Lists.{contents, outputs, shrunk, waiting}
use Rattle.vx_record.specs.Places.{Place, owner, same_place}
use Rattle.vx_record.specs.Places.Place.{Outputs, Waiting, Contents, Held}
use Rattle.vx_record.specs.Shifts.{at}
use Rattle.vx_record.specs.Spending.{oldest, HasCause}
use Rattle.vx_record.specs.Tallies.{is_first, is_newest, is_unread}
use Rattle.vx_record.specs.Turns.{is_out}
use Rattle.vx_record.proofs.Adding.{adds_both, adds_none, adds_one}
use Rattle.vx_record.proofs.Counts.{count-append}
use Rattle.vx_record.proofs.HeldCopies.{AreAt, not_there, others_stay}
use Rattle.vx_record.proofs.OnePlace.{conserved}
use Rattle.vx_record.proofs.Shifting.{stands_at}
use Rattle.vx_balance.specs.Owned.{IsOfBatch}
use Rattle.vx_balance.proofs.Sums.{sum_point}
use Rattle.vx_counts.specs.Begun.{AreBegun, IsBegun, IsLastAt, WasPutAs}
use Rattle.vx_counts.specs.Spends.{StandsAt}
use Rattle.vx_counts.proofs.Begun.{last_is_first, last_taken_first}
use Rattle.vx_counts.proofs.SpentFrom.{legal_place}
use Rattle.vx_places.specs.declared.row.Row.{Row}
use Rattle.vx_places.specs.Calls.{IsOldestFor, NoneBefore, HasSome, Loses, NothingToLose, NothingToSpend, left_of}
use Rattle.vx_places.specs.Holding.{Holds}
use Rattle.vx_places.specs.Looks.{IsFirstFilled}
use Rattle.vx_places.specs.Numbers.{numbers, for_target, IsCopyIn}
use Rattle.vx_places.specs.Capacities.{SameCapacities}
use Rattle.vx_places.specs.Views.{parcels_here, row_at, here_if}
use Rattle.vx_places.proofs.Looking.{oldest_for, some_for}
use Rattle.vx_places.proofs.Recorded.{filled_there, some_is, stands_there}
use Rattle.vx_places.proofs.Spending.{spent_shifts}
use Rattle.vx_places.proofs.Steps.{still_shifts}
use Rattle.vx_places.proofs.Written.{each_place}
use Rattle.vx_instances.specs.declared.state.InstanceState.{InstanceState}
use Rattle.vx_instances.specs.Knowing.{Knows}
use Rattle.vx_instances.specs.Staying.{EachState, Stays}
use Rattle.vx_instances.proofs.Aside.{given_up_known}
use Rattle.vx_moves.specs.declared.engine.EngineState.{EngineState}
use Rattle.vx_moves.specs.Spends.{IsSpendOf, MaySpendAll, MaySpendFrom, IsNotedAs, IsSettled, HasSpent, OnlySpends, unspent}
use Rattle.vx_moves.specs.Stands.{Stands}
use Rattle.vx_moves.proofs.Leaving.{capacities_both, each_both}
use Rattle.vx_moves.specs.Keepers.{AreKept, SparesKept}
use Rattle.vx_moves.proofs.Keepers.{kept_behind, place_alone}
use Rattle.vx_moves.proofs.Stepping.{Rests, follows, keeps_behind, moved, none_put}

-- NOTHING TO SPEND
-- no parcel at a place of a legal record is empty
none_here : (h : Record) (rows : List Row) (p : Place) → IsLegal h → Holds rows h → NothingToSpend p rows → parcels_here rows p ≡ Some []
none_here h rows p legal holds none = go (parcels_here rows p) refl none
  where
    go : (o : Option (List Parcel)) → parcels_here rows p ≡ o → IsSomeAnd o NothingToLose → o ≡ Some []
    go None is none = absurd none
    go (Some []) is none = refl
    go (Some (parcel ∷ rest)) is none = absurd ((filled_there h rows p (parcel ∷ rest) legal holds is).0 none)

pub seen_none : (h : Record) (rows : List Row) (p : Place) → Holds rows h → parcels_here rows p ≡ Some [] → at h p ≡ []
seen_none h rows p holds is = sym (rw is at (holds.stand p))

pub nothing_there : (h : Record) (rows : List Row) (p : Place) → IsLegal h → Holds rows h → NothingToSpend p rows → at h p ≡ []
nothing_there h rows p legal holds none = seen_none h rows p holds (none_here h rows p legal holds none)

pub waits_some : (h : Record) (rows : List Row) (i t k : ℕ) → IsLegal h → Holds rows h → IsOldestFor rows i t k → NothingToSpend (Waiting i t) rows → ⊥
waits_some h rows i t k legal holds oldest none = go (row_at rows i) oldest (none_here h rows (Waiting i t) legal holds none)
  where
    go : (o : Option Row) → IsSomeAnd o (λ row. NoneBefore t k row.waiting.items) → here_if (Waiting i t) o ≡ Some [] → ⊥
    go None first is = first
    go (Some row) first is =
        let some = some_for t k row.waiting.items (oldest_for t k row.waiting.items first) in
        let none : for_target t row.waiting.items ≡ [] = cc in
        absurd (omega (arith, rw none at some))

pub stage_some : (h : Record) (rows : List Row) (i s : ℕ) → IsLegal h → Holds rows h → HasSome rows i s → NothingToSpend (Contents i s) rows → ⊥
stage_some h rows i s legal holds some none =
    let l = (some_is h rows i s legal holds).0 some in
    let gone = ap length (stands_at h (Contents i s) legal ∙ nothing_there h rows (Contents i s) legal holds none) in
    absurd (omega (arith, l, gone))

pub none_filled_there : (h : Record) (rows : List Row) (i : ℕ) → IsLegal h → Holds rows h → IsFirstFilled rows i None → (s : ℕ) → at h (Contents i s) ≡ []
none_filled_there h rows i legal holds none s = sym (stands_at h (Contents i s) legal) ∙ go (contents h i s) (some_is h rows i s legal holds).1
  where
    go : (ps : List (List ℕ)) → (0 < length ps → HasSome rows i s) → ps ≡ []
    go [] some = refl
    go (p ∷ ps) some = absurd (none s (some (omega arith)))

-- COPIES
copy_last : (cs : List Copy) (copy : Copy) → IsCopyIn (cs ++ copy ∷ []) copy
copy_last [] copy = inl refl
copy_last (c ∷ cs) copy = inr (copy_last cs copy)

left_joined : (event : Event) (cs : List Copy) (rest : List Parcel) → joined (numbers (left_of event cs rest)) ≡ numbers_of cs ++ joined (numbers rest)
left_joined event [] rest = refl
left_joined event (c ∷ cs) rest = refl

oldest_there : (c : ℕ) (ps : List (List ℕ)) → 0 < count c (oldest ps) → 0 < count c (joined ps)
oldest_there c [] l = l
oldest_there c (p ∷ ps) l = omega (arith, count-append c p (joined ps))

pub only_one : (c d : ℕ) → 0 < count d (c ∷ []) → c ≡ d
only_one c d l = grind (arith, nat_tests, l)

-- how many are left
pub spent_falls : (h : Record) (i c : ℕ) (outcome : Outcome) → IsLive h c → unspent (Spent i c outcome ∷ h) + 1 ≡ unspent h
spent_falls h i c outcome live =
    let same : next_copy h + 0 ≡ next_copy h = omega arith in
    let more : (d : ℕ) → times_spent (Spent i c outcome ∷ h) d ≡ times_spent h d + count d (c ∷ []) = λ d. count-append d (all_of spends h) (c ∷ []) in
    rw same
    (sum_point (λ d. if times_spent (Spent i c outcome ∷ h) d == 0 then 1 else 0) (λ d. if times_spent h d == 0 then 1 else 0) c 1 (next_copy h) live.0
    (rw (more c) (grind (arith, nat_tests, live.2)))
    (λ d other. rw (more d) (grind (arith, nat_tests, other))))

pub notice_keeps : (h : Record) (b : ℕ) (status : BatchStatus) → unspent (Notice b status ∷ h) ≡ unspent h
notice_keeps h b status = let same : next_copy h + 0 ≡ next_copy h = omega arith in simp (same, append-nil)

-- WHERE COPIES STAND
-- a copy that stands at one place stands at no other
elsewhere : (h : Record) (p q : Place) (c : ℕ) → IsLegal h → same_place p q ≡ false → 0 < count c (joined (at h p)) → StandsAt h q c → ⊥
elsewhere h p q c legal apart l other = absurd (omega (arith, other, not_there h p q c (conserved h legal) apart (rw (stands_at h p legal) l)))

-- so what is held is neither dropped as the newest nor unread
pub held_so : (h : Record) (i c : ℕ) (outcome : Outcome) → IsLegal (Spent i c outcome ∷ h) → 0 < count c (joined (at h (Held i))) →
    (is_newest outcome ≡ false) × (is_unread outcome ≡ false)
held_so h i c NewestDropped legal l =
    let place = legal_place h i c NewestDropped legal in absurd (elsewhere h (Held i) (Waiting i place.0) c legal.1 refl l place.1)
held_so h i c NoConsumer legal l = absurd (elsewhere h (Held i) (Outputs i) c legal.1 refl l (legal_place h i c NoConsumer legal))
held_so h i c other legal l = (refl, refl)

-- A SPEND, AND PERHAPS A NOTICE
-- what the spend leaves and the notice keeps
pub behind : {e : Entry} {h log : Record} (F : Record → Type 0) → F (e ∷ h) → ((b : ℕ) (status : BatchStatus) → F (Notice b status ∷ e ∷ h)) → IsNotedAs e h log → F log
behind F spent noticed (inl is) = rw is spent
behind F spent noticed (inr more) = rw more.1.1 (noticed more.0 more.1.0)

-- the last copy of the oldest parcel at a place, which is gone from it, may be spent
pub record IsSpendable (h : Record) (p : Place) (outcome : Outcome) (copy : Copy) : Type 0 where
  pub among : 0 < count copy.number (oldest (at h p))
  pub there : 0 < count copy.number (joined (at h p))
  pub of_batch : IsOfBatch h copy
  pub live : IsLive h copy.number
  pub follows : Follows h (Spent (owner p) copy.number outcome)
  pub legal : IsLegal (Spent (owner p) copy.number outcome ∷ h)

empty_numbers : (cs : List Copy) → is_empty (numbers_of cs) ≡ is_empty cs
empty_numbers [] = refl
empty_numbers (c ∷ cs) = refl

module _ {P : Type 0} {observe : P → Observation} {old : EngineState P} {p : Place} {copy : Copy} {last : Bool} {rows : List Row} (stood : Stands observe old)
    (loses : Loses p copy last old.places rows) where
  had : (numbers_of loses.loses.left ++ copy.number ∷ []) ∷ numbers loses.loses.rest ≡ at old.log p
  had =
      sym (ap (λ ns. ns ∷ numbers loses.loses.rest) (map-append (λ (c : Copy). c.number) loses.loses.left (copy ∷ [])))
      ∙ rw (loses.was, loses.loses.was) at (stood.places.stand p)

  -- it is the last of what is left of a parcel, which is a first part of one that was put there
  is_last : IsLastAt old.log p copy.number
  is_last = record {
    before = [];
    left = numbers_of loses.loses.left;
    after = numbers loses.loses.rest;
    is = stands_at old.log p stood.legal ∙ sym had;
  }

  is_begun : IsBegun old.log p (numbers_of loses.loses.left ++ copy.number ∷ [])
  unfolding is_last
  is_begun = (subst (AreBegun old.log p) is_last.is (stood.begun p (place_alone old.places old.log p stood.keepers.apart loses.was))).0

  alone : is_empty (numbers_of loses.loses.left) ≡ last
  alone = empty_numbers loses.loses.left ∙ sym loses.loses.alone

  -- so it came first in that parcel exactly where no other copy is left
  pub put_so : WasPutAs old.log p copy.number last
  put_so = subst (WasPutAs old.log p copy.number) alone (last_is_first old.log p (numbers_of loses.loses.left) copy.number stood.legal is_begun)

-- so it is of what an instance took
pub taken_so : {P : Type 0} {observe : P → Observation} {old : EngineState P} {i : ℕ} {copy : Copy} {last : Bool} {rows : List Row} (stood : Stands observe old)
    (loses : Loses (Held i) copy last old.places rows) → last ≡ is_first old.log i copy.number
taken_so {old = old} {i = i} {copy = copy} stood loses =
    sym (alone stood loses) ∙ last_taken_first old.log i (numbers_of loses.loses.left) copy.number stood.legal (is_begun stood loses)

module _ {P : Type 0} {observe : P → Observation} {old : EngineState P} {p : Place} {outcome : Outcome} {copy : Copy} {last : Bool} {rows : List Row}
    (stood : Stands observe old) (may : MaySpendFrom old.log p outcome) (loses : Loses p copy last old.places rows) where
  pub spendable : IsSpendable old.log p outcome copy
  spendable =
      let among : 0 < count copy.number (oldest (at old.log p)) = rw (← (had stood loses)) (grind (arith, nat_tests, count-append)) in
      let there = oldest_there copy.number (at old.log p) among in
      let known = stood.places.known p loses.loses.event copy (rw (loses.was, loses.loses.was) (inl (refl, copy_last loses.loses.left copy))) in
      let live = stands_there old.log copy.number p stood.legal there in
      let follow = follows (Spent (owner p) copy.number outcome) old.balance old.log stood.balance
      (record { live = live.0; here = live.1; cause = may.cause copy.number among }) (may.left copy.number) in
      record { among = among; there = there; of_batch = assumption known; live = live.0; follows = follow; legal = (follow, stood.legal) }

  others_now : (q : Place) → same_place p q ≡ false → at (Spent (owner p) copy.number outcome ∷ old.log) q ≡ at old.log q
  others_now q other = go (owner p == owner q)
    where
      are_at : AreAt old.log p (copy.number ∷ [])
      are_at d l = rw (stands_at old.log p stood.legal) (rw (only_one copy.number d l) at spendable.there)

      go : (b : Bool) → (if b then shrunk (copy.number ∷ []) (at old.log q) else at old.log q) ≡ at old.log q
      go true = rw (← (stands_at old.log q stood.legal)) (others_stay old.log p q (copy.number ∷ []) (conserved old.log stood.legal) are_at other)
      go false = refl

  -- no keeper has it: what an instance holds that merges is seen at no place
  spares_kept : SparesKept old.log (Spent (owner p) copy.number outcome)
  spares_kept j joins same =
      each_place p (λ q. parcels_here old.places q ≡ None → count copy.number (joined (at old.log q)) ≡ 0)
      (λ none. let no = sym none ∙ loses.was in cc) (λ q other none. unheld q other) (Held j) (stood.keepers.apart j joins)
    where
      unheld : (q : Place) → same_place p q ≡ false → count copy.number (joined (at old.log q)) ≡ 0
      unheld q other =
          rw (stands_at old.log q stood.legal) at (not_there old.log p q copy.number (conserved old.log stood.legal) other (rw (← (stands_at old.log p stood.legal)) at spendable.there))

  -- the law of spends: where such a copy is gone, and its spend is settled, the engine's state stands
  pub spent_step : {log : Record} {account : Ledger} {states : List (InstanceState P)} → IsSettled observe (Spent (owner p) copy.number outcome) old.log log account states →
      length rows ≡ length old.places → SameCapacities old.places rows → length states ≡ length old.states → EachState Stays old.states states →
      HasSpent observe p outcome old (record old { places = rows; states = states; balance = account; log = log })
  spent_step {log} settled many same size stay =
      let h = old.log in
      let e = Spent (owner p) copy.number outcome in
      let kind = IsSpendOf (owner p) outcome in
      let is = spendable in
      let shifts = spent_shifts h (owner p) outcome p copy last old.places rows refl is.legal stood.places loses in
      let slots = old.keepers.items in
      let spent : Rests rows slots old.run (e ∷ h) = moved (assumption) (inl (p, is_last stood loses)) is.legal shifts (none_put (e ∷ h)) same many (assumption stood) in
      let rests : Rests rows slots old.run log = behind (λ k. IsLegal k → Rests rows slots old.run k) (λ _. spent)
      (λ b status legal. moved (assumption) tt legal (still_shifts (Notice b status) rows tt) (none_put (Notice b status ∷ e ∷ h)) (assumption) refl spent)
      settled.noted settled.legal in
      let keeps : AreKept slots (e ∷ h) = keeps_behind stood e spares_kept is.legal in
      let kept : AreKept slots log = behind (λ k. IsLegal k → AreKept slots k) (λ _. keeps)
      (λ b status legal. kept_behind slots (e ∷ h) (Notice b status) legal (λ j joins. tt) spent.keepers.whose keeps) settled.noted settled.legal in
      let one : OnlyAdds kind h (e ∷ h) = adds_one kind h h (e ∷ h) e (adds_none kind h h refl) is.follows (refl, refl) refl in
      let fell = spent_falls h (owner p) copy.number outcome is.live in
      let now : joined (at log p) ≡ numbers_of loses.loses.left ++ joined (numbers loses.loses.rest) =
      ap joined (sym (rw (loses.now, loses.loses.now) at (rests.places.stand p))) ∙ left_joined loses.loses.event loses.loses.left loses.loses.rest in
      record {
        copy = copy.number;
        was = is.among;
        noted = settled.noted;
        only = behind (λ k. IsLegal k → OnlyAdds kind h k) (λ _. one)
            (λ b status legal. adds_one kind h (e ∷ h) (Notice b status ∷ e ∷ h) (Notice b status) one legal.0 tt refl) settled.noted settled.legal;
        stands = assumption (settled, rests, kept, many ∙ stood.size ∙ sym size);
        lost = λ c. rw (now, ← (had stood loses)) (omega (arith, count-append));
        fewer = rw (now, ← (had stood loses)) (omega (arith, length-append {A = ℕ}));
        left = behind (λ k. unspent k + 1 ≡ unspent h) fell (λ b status. omega (arith, fell, notice_keeps (e ∷ h) b status)) settled.noted;
        others = λ q other. behind (λ k. at k q ≡ at h q) (others_now q other) (λ b status. others_now q other) settled.noted;
        leaves = record { states = stay; capacities = same; run = refl };
        size = size;
      }

-- WHERE THE RUN IS GIVEN UP
-- what stands at an unleased instance may be given up
pub may_give_up : (h : Record) (p : Place) → abandoned h ≡ true → is_out h (owner p) ≡ false → MaySpendFrom h p Abandoned
may_give_up h p over unleased = record { cause = λ c among. (over, unleased); left = λ c given. refl }

pub may_give_up_held : (h : Record) (i : ℕ) → abandoned h ≡ true → is_out h i ≡ false → MaySpendAll h (Held i) Abandoned
may_give_up_held h i over unleased = record { cause = λ c among. (over, unleased); left = λ c given. refl }

-- and the states know of it, where it isn't held
pub given_up : {P : Type 0} {observe : P → Observation} {h : Record} {p : Place} {copy : Copy} {states : List (InstanceState P)} → IsSpendable h p Abandoned copy →
    same_place p (Held (owner p)) ≡ false → Knows observe states h → Knows observe states (Spent (owner p) copy.number Abandoned ∷ h)
given_up {observe = observe} {h = h} {p = p} {copy = copy} {states = states} is apart =
    let there = rw (← (stands_at h p is.legal.1)) at is.there in
    let unheld = rw (stands_at h (Held (owner p)) is.legal.1) at (not_there h p (Held (owner p)) copy.number (conserved h is.legal.1) apart there) in
    given_up_known observe h (owner p) copy.number states unheld is.legal

-- MANY SPENDS
-- what is held keeps its cause
cause_kept : {copy : ℕ} {h log : Record} (i c : ℕ) (outcome : Outcome) → IsLegal h → 0 < count c (joined (at h (Held i))) → IsNotedAs (Spent i copy outcome) h log →
    HasCause h i c outcome → HasCause log i c outcome
cause_kept {h = h} i c NewestDropped legal here noted cause =
    absurd (elsewhere h (Held i) (Waiting i cause.0) c legal refl here (oldest_there c (waiting h i cause.0) cause.1.next))
cause_kept {h = h} i c NoConsumer legal here noted cause = absurd (elsewhere h (Held i) (Outputs i) c legal refl here (oldest_there c (outputs h i) cause.next))
cause_kept i c outcome legal here noted cause = behind (λ k. HasCause k i c outcome) (assumption cause) (λ b status. assumption cause) noted

pub may_spend_one : (h : Record) (p : Place) (outcome : Outcome) → MaySpendAll h p outcome → MaySpendFrom h p outcome
may_spend_one h p outcome may = record { cause = λ c among. may.cause c (oldest_there c (at h p) among); left = may.left }

pub may_spend_more : {P : Type 0} {observe : P → Observation} {old new : EngineState P} (i : ℕ) (outcome : Outcome) → IsLegal old.log → MaySpendAll old.log (Held i) outcome →
    HasSpent observe (Held i) outcome old new → MaySpendAll new.log (Held i) outcome
may_spend_more {old = old} i outcome legal may spent = record {
  cause = λ c l.
      let before : 0 < count c (joined (at old.log (Held i))) = omega (arith, l, spent.lost c) in
      cause_kept i c outcome legal before spent.noted (may.cause c before);
  left = λ c. behind (λ k. abandoned k ≡ true → gives_up outcome ≡ true) (may.left c) (λ b status. may.left c) spent.noted;
}

module _ {P : Type 0} {observe : P → Observation} {old mid new : EngineState P} where
  pub spends_both : {i : ℕ} {outcome : Outcome} → OnlySpends observe i outcome old mid → OnlySpends observe i outcome mid new → OnlySpends observe i outcome old new
  spends_both {i} {outcome} first second = record {
    only = adds_both (IsSpendOf i outcome) old.log mid.log new.log first.only second.only;
    stands = second.stands;
    empty = λ q none. second.empty q (first.empty q none);
    others = λ q other. second.others q other ∙ first.others q other;
    leaves = record {
      states = each_both old.states mid.states new.states first.leaves.states second.leaves.states;
      capacities = capacities_both old.places mid.places new.places first.leaves.capacities second.leaves.capacities;
      run = second.leaves.run ∙ first.leaves.run;
    };
    size = second.size ∙ first.size;
  }

  -- one more
  pub spends_more : (p : Place) {outcome : Outcome} → OnlySpends observe (owner p) outcome old mid → HasSpent observe p outcome mid new →
      OnlySpends observe (owner p) outcome old new
  spends_more p before spent =
      let empty = each_place p (λ q. at mid.log q ≡ [] → at new.log q ≡ []) (λ none. absurd (omega (arith, rw none at spent.was)))
      (λ q other none. spent.others q other ∙ none) in
      let others = each_place p (λ q. (owner q ≡ owner p → ⊥) → at new.log q ≡ at mid.log q) (λ apart. absurd (apart refl)) (λ q other _. spent.others q other) in
      spends_both before (assumption (empty, others, spent))

-- while the copies of an instance of a run that was given up are spent one after the other
pub record GivesUp {P : Type 0} (observe : P → Observation) (i : ℕ) (old now : EngineState P) : Type 0 where
  pub spent : OnlySpends observe i Abandoned old now
  pub over : abandoned now.log ≡ true
  pub unleased : is_out now.log i ≡ false

pub gives_up_more : {P : Type 0} {observe : P → Observation} {old mid new : EngineState P} (p : Place) → GivesUp observe (owner p) old mid →
    HasSpent observe p Abandoned mid new →
    GivesUp observe (owner p) old new
gives_up_more p was one = record {
  spent = spends_more p was.spent one;
  over = behind (λ k. abandoned k ≡ true) was.over (λ b status. was.over) one.noted;
  unleased = behind (λ k. is_out k (owner p) ≡ false) was.unleased (λ b status. was.unleased) one.noted;
}
