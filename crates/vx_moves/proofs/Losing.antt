-- How a copy that an instance keeps which merges is spent, for whatever cause.
use Rattle.std.proofs.Common.{◌≡◌, ◌∙◌, ℕ, ◌+◌, ◌<◌, Bool, true, false, List, [], ◌∷◌, Option, length, inr, refl, sym, arith}
use Rattle.std.specs.Prelude.{◌==◌, if◌then◌else◌}
use Rattle.std.specs.Global.{Vec}
use Rattle.vx_ends.specs.Observation.{Observation}
use Rattle.vx_status.specs.declared.outcome.Outcome.{Outcome}
use Rattle.vx_status.specs.declared.batch_status.BatchStatus.{BatchStatus}
use Rattle.vx_ledger.specs.Copies.{Copy}
use Rattle.vx_ledger.specs.Ledger.{Ledger}
use Rattle.vx_record.specs.declared.entry.Entry.{Entry}
use Rattle.vx_record.specs.declared.entry.Entry.TheVariants.{Spent, Notice}
use Rattle.vx_record.specs.Records.{Record}
use Rattle.vx_record.specs.Abandoning.{MayStillCome}
use Rattle.vx_record.specs.Additions.{OnlyAdds}
use Rattle.vx_record.specs.Copies.{count, joined, IsLive}
use Rattle.vx_record.specs.Legal.{IsLegal, Follows}
use Rattle.vx_record.specs.Lists.{shrunk}
use Rattle.vx_record.specs.Places.{Place, owner, same_place}
use Rattle.vx_record.specs.Places.Place.{Held}
use Rattle.vx_record.specs.Shifts.{at}
use Rattle.vx_record.specs.Spending.{HasCause}
use Rattle.vx_record.proofs.Adding.{adds_none, adds_one}
use Rattle.vx_record.proofs.HeldCopies.{AreAt, others_stay}
use Rattle.vx_record.proofs.OnePlace.{conserved}
use Rattle.vx_record.proofs.Shifting.{stands_at}
use Rattle.vx_balance.specs.Owned.{IsOfBatch}
use Rattle.vx_places.proofs.Recorded.{stands_there}
use Rattle.vx_places.proofs.Spending.{lent_spent_shifts}
use Rattle.vx_places.proofs.Steps.{still_shifts}
use Rattle.vx_places.proofs.Written.{each_place}
use Rattle.vx_instances.specs.declared.state.InstanceState.{InstanceState}
use Rattle.vx_instances.specs.Staying.{EachState, Stays}
use Rattle.vx_tasks.specs.Joining.{joins_at}
use Rattle.vx_keeping.specs.Kept.{Kept}
use Rattle.vx_keeping.specs.Keeping.{IsMade}
use Rattle.vx_moves.specs.declared.engine.EngineState.{EngineState}
use Rattle.vx_moves.specs.Keepers.{AreWhose, OneKeeper}
use Rattle.vx_moves.specs.Leaving.{Leaves}
use Rattle.vx_moves.specs.Spends.{IsSpendOf, IsSettled, unspent}
use Rattle.vx_moves.specs.Stands.{StandsBy}
use Rattle.vx_moves.proofs.Merging.{one_keepers}
use Rattle.vx_moves.proofs.Spending.{behind, notice_keeps, only_one, spent_falls}
use Rattle.vx_moves.proofs.Stepping.{Rests, follows, moved, none_put}

-- what a keeper loses it has, by what the record says, which knows it, and it may be spent so
pub record IsThere (h : Record) (i : ℕ) (outcome : Outcome) (copy : Copy) : Type 0 where
  pub there : 0 < count copy.number (joined (at h (Held i)))
  pub of_batch : IsOfBatch h copy
  pub live : IsLive h copy.number
  pub follows : Follows h (Spent i copy.number outcome)
  pub legal : IsLegal (Spent i copy.number outcome ∷ h)

-- a copy of an instance was spent so, and perhaps a notice given, and nothing else was done
pub record LosesCopy {P : Type 0} (AreSo : List (Option Kept) → Record → Type 0) (observe : P → Observation) (i : ℕ) (outcome : Outcome) (old new : EngineState P) : Type 0 where
  pub only : OnlyAdds (IsSpendOf i outcome) old.log new.log
  pub stands : StandsBy AreSo observe new new.log
  pub empty : (q : Place) → at old.log q ≡ [] → at new.log q ≡ []
  pub others : (q : Place) → (owner q ≡ i → ⊥) → at new.log q ≡ at old.log q
  pub fewer : unspent new.log + 1 ≡ unspent old.log
  pub leaves : Leaves old new
  pub size : length new.states ≡ length old.states

module _ {P : Type 0} {observe : P → Observation} {AreSo : List (Option Kept) → Record → Type 0} {old : EngineState P} (slots : Vec (Option Kept)) (i : ℕ) (copy : Copy) (outcome : Outcome)
    (stands : StandsBy AreSo observe old old.log) (joins : joins_at old.log i ≡ true) (had : 0 < count copy.number (joined (at old.log (Held i)))) (made : IsMade old.log copy)
    (cause : HasCause old.log i copy.number outcome) (left : MayStillCome old.log (Spent i copy.number outcome)) where
  abbrev e : Entry
  e = Spent i copy.number outcome

  pub is_there : IsThere old.log i outcome copy
  is_there =
      let live = stands_there old.log copy.number (Held i) stands.legal had in
      let follow = follows e old.balance old.log stands.balance (record { live = live.0; here = live.1; cause = cause }) left in
      record { there = had; of_batch = assumption made; live = live.0; follows = follow; legal = (follow, stands.legal) }

  others_now : (q : Place) → same_place (Held i) q ≡ false → at (e ∷ old.log) q ≡ at old.log q
  others_now q other = go (i == owner q)
    where
      are_at : AreAt old.log (Held i) (copy.number ∷ [])
      are_at d l = rw (stands_at old.log (Held i) stands.legal) (rw (only_one copy.number d l) at had)

      go : (b : Bool) → (if b then shrunk (copy.number ∷ []) (at old.log q) else at old.log q) ≡ at old.log q
      go true = rw (← (stands_at old.log q stands.legal)) (others_stay old.log (Held i) q (copy.number ∷ []) (conserved old.log stands.legal) are_at other)
      go false = refl

  -- where the spend of such a copy is settled, and the keepers are so behind it and behind the notice, the engine's state stands
  pub lost_step : {F : Kept → Kept → Type 0} {log : Record} {account : Ledger} {states : List (InstanceState P)} → OneKeeper F i old.keepers.items slots.items →
      (IsLegal (e ∷ old.log) → AreSo slots.items (e ∷ old.log)) →
      ((b : ℕ) (status : BatchStatus) → IsLegal (Notice b status ∷ e ∷ old.log) → AreWhose slots.items (e ∷ old.log) → AreSo slots.items (e ∷ old.log) →
      AreSo slots.items (Notice b status ∷ e ∷ old.log)) →
      IsSettled observe e old.log log account states → length states ≡ length old.states → EachState Stays old.states states →
      LosesCopy AreSo observe i outcome old (record old { keepers = slots; states = states; balance = account; log = log })
  lost_step {log = log} one keeps_then keeps_noticed settled size stay =
      let h = old.log in
      let kind = IsSpendOf i outcome in
      let is = is_there in
      let shifts = lent_spent_shifts h i copy.number outcome old.places (stands.keepers.apart i joins) is.there is.legal stands.places in
      let moves : Rests old.places old.keepers.items old.run (e ∷ h) =
      moved (assumption) (inr (record { holder = i; is = joins; holds = rw (stands_at h (Held i) stands.legal) is.there })) is.legal shifts (none_put (e ∷ h)) (λ j. (refl, refl)) refl (assumption stands) in
      let spent : Rests old.places slots.items old.run (e ∷ h) = record {
        places = moves.places;
        run = moves.run;
        kept = moves.kept;
        capacities = moves.capacities;
        begun = moves.begun;
        keepers = one_keepers i old.keepers.items slots.items old.places (e ∷ h) one moves.keepers;
      } in
      let rests : Rests old.places slots.items old.run log = behind (λ k. IsLegal k → Rests old.places slots.items old.run k) (λ _. spent)
      (λ b status legal. moved (assumption) tt legal (still_shifts (Notice b status) old.places tt) (none_put (Notice b status ∷ e ∷ h)) (λ j. (refl, refl)) refl spent)
      settled.noted settled.legal in
      let keeps = keeps_then is.legal in
      let kept : AreSo slots.items log = behind (λ k. IsLegal k → AreSo slots.items k) (λ _. keeps)
      (λ b status legal. keeps_noticed b status legal spent.keepers.whose keeps) settled.noted settled.legal in
      let one_more : OnlyAdds kind h (e ∷ h) = adds_one kind h h (e ∷ h) e (adds_none kind h h refl) is.follows (refl, refl) refl in
      let empties = each_place (Held i) (λ q. at h q ≡ [] → at (e ∷ h) q ≡ []) (λ none. absurd (omega (arith, rw none at is.there))) (λ q other none. others_now q other ∙ none) in
      let others = each_place (Held i) (λ q. (owner q ≡ i → ⊥) → at (e ∷ h) q ≡ at h q) (λ apart. absurd (apart refl)) (λ q other _. others_now q other) in
      let fell = spent_falls h i copy.number outcome is.live in
      record {
        only = behind (λ k. IsLegal k → OnlyAdds kind h k) (λ _. one_more)
            (λ b status legal. adds_one kind h (e ∷ h) (Notice b status ∷ e ∷ h) (Notice b status) one_more legal.0 tt refl) settled.noted settled.legal;
        stands = assumption (settled, rests, kept, stands.size ∙ sym size);
        empty = λ q none. behind (λ k. at k q ≡ []) (empties q none) (λ b status. empties q none) settled.noted;
        others = λ q other. behind (λ k. at k q ≡ at h q) (others q other) (λ b status. others q other) settled.noted;
        fewer = behind (λ k. unspent k + 1 ≡ unspent h) fell (λ b status. omega (arith, fell, notice_keeps (e ∷ h) b status)) settled.noted;
        leaves = record { states = stay; capacities = λ j. (refl, refl); run = refl };
        size = size;
      }
