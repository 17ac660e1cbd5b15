-- An instance that has sent all that it put out has nothing to move on.
use Rattle.std.proofs.Common.{◌≡◌, ◌⊎◌, ℕ, zero, suc, ◌+◌, ◌<◌, ◌≤◌, Bool, true, false, List, [], ◌∷◌, length, Option, Some, None, inl, inr, refl, subst, arith}
use Rattle.std.specs.Prelude.{◌==◌, if◌then◌else◌, IsSomeAnd}
use Rattle.std.proofs.lemmas.Bool.{cases_eq}
use Rattle.std.proofs.lemmas.Bool.Decides.{nat_tests}
use Rattle.vx_ledger.specs.declared.child.Child.{Child}
use Rattle.vx_ledger.specs.declared.parcel.Parcel.{Parcel}
use Rattle.vx_record.specs.Turns.{is_out}
use Rattle.vx_record.specs.Places.Place.{Outputs, Waiting}
use Rattle.vx_places.specs.declared.row.Row.{Row}
use Rattle.vx_places.specs.Numbers.{for_target}
use Rattle.vx_places.specs.Views.{row_at, here_if, parcels_here}
use Rattle.vx_places.specs.Calls.{IsOldestFor, NoneBefore}
use Rattle.vx_places.specs.Looks.{HasSent}
use Rattle.vx_places.specs.Marks.{IsBefore}
use Rattle.vx_moves.specs.declared.engine.EngineState.{EngineState}
use Rattle.vx_hub.specs.Pushing.{CanMove, NoneMovesBelow}

-- a child is for a target, so that there is one
one_for : (t k : ℕ) (cs : List Child) → NoneBefore t k cs → for_target t cs ≡ [] → ⊥
one_for t k [] first none = first
one_for t zero (c ∷ cs) first none = go (c.target == t) refl none
  where
    go : (b : Bool) → (c.target == t) ≡ b → (if b then c.parcel ∷ for_target t cs else for_target t cs) ≡ [] → ⊥
    go true is nil = cc
    go false is nil = grind (arith, nat_tests, is, first)
one_for t (suc k) (c ∷ cs) first none = go (c.target == t) none (one_for t k cs first.1)
  where
    go : (b : Bool) → (if b then c.parcel ∷ for_target t cs else for_target t cs) ≡ [] → (for_target t cs ≡ [] → ⊥) → ⊥
    go true nil rest = cc
    go false nil rest = rest nil

none_waiting : (rows : List Row) (i t k : ℕ) → IsOldestFor rows i t k → parcels_here rows (Waiting i t) ≡ Some [] → ⊥
none_waiting rows i t k oldest none = go (row_at rows i) oldest none
  where
    go : (o : Option Row) → IsSomeAnd o (λ row. NoneBefore t k row.waiting.items) → here_if (Waiting i t) o ≡ Some [] → ⊥
    go None is nil = is
    go (Some row) is nil = one_for t k row.waiting.items is (let same : for_target t row.waiting.items ≡ [] = cc in same)

no_output : (o : Option (List Parcel)) → IsSomeAnd o (λ parcels. 0 < length parcels) → o ≡ Some [] → ⊥
no_output None is none = is
no_output (Some parcels) is none = let same : parcels ≡ [] = cc in let l = subst (λ (ps : List Parcel). 0 < length ps) same is in omega (arith, l)

module _ {P : Type 0} (engine : EngineState P) where
  pub sent_rests : (i : ℕ) → HasSent engine.places i → CanMove engine i → ⊥
  sent_rests i sent (inl split) = no_output (parcels_here engine.places (Outputs i)) split.1 sent.0
  sent_rests i sent (inr pass) = none_waiting engine.places i pass.target pass.child pass.oldest (sent.1 pass.target)

  -- so it is of all before the next that may not have sent all, and that itself can't move any
  pub none_before : (from : ℕ) (next : Option ℕ) → NoneMovesBelow from engine → ((i : ℕ) → from ≤ i → i < length engine.places → IsBefore i next → HasSent engine.places i) →
      (n : ℕ) → n ≤ length engine.places → ((i : ℕ) → i < n → IsBefore i next) → NoneMovesBelow n engine
  none_before from next below sent n within before i l unleased moves = elim (cases_below i from) [
    | inl less ↦ below i less unleased moves
    | inr more ↦ sent_rests i (sent i more (omega (arith, l, within)) (before i l)) moves
  ]
    where
      cases_below : (a b : ℕ) → (a < b) ⊎ (b ≤ a)
      cases_below a zero = inr (omega arith)
      cases_below zero (suc b) = inl (omega arith)
      cases_below (suc a) (suc b) = elim (cases_below a b) [ inl l ↦ inl (omega (arith, l)) | inr l ↦ inr (omega (arith, l)) ]

  pub one_more_rests : (k : ℕ) → NoneMovesBelow k engine → (is_out engine.log k ≡ false → CanMove engine k → ⊥) → NoneMovesBelow (k + 1) engine
  one_more_rests k below here i l unleased moves = elim (cases_eq i k) [
    | inl same ↦ here (subst (λ (j : ℕ). is_out engine.log j ≡ false) same unleased) (subst (λ (j : ℕ). CanMove engine j) same moves)
    | inr other ↦ below i (omega (arith, l, other)) unleased moves
  ]
