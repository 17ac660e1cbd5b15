-- Rows that are made, and rows at which nothing stands.
use Rattle.std.proofs.Common.{◌≡◌, ℕ, zero, suc, ◌+◌, ◌<◌, List, [], ◌∷◌, ◌++◌, length, take, get_or, refl, sym, ap, ◌∙◌, arith, Option, Some, None}
use Rattle.std.specs.Prelude.{◌==◌, false, slice_index, IsSomeAnd, IfSome, IsSome}
use Rattle.std.proofs.lemmas.Bool.Decides.{nat_tests}
use Rattle.std.proofs.lemmas.List.Elements.{recursion_from_All}
use Rattle.std.proofs.lemmas.Option.{slice_get-get_or}
use Rattle.vx_value.specs.Filled.{Filled}
use Rattle.vx_ledger.specs.declared.parcel.Parcel.{Parcel}
use Rattle.vx_record.specs.Places.{Place, owner, same_place}
use Rattle.vx_record.specs.Places.Place.{Outputs, Waiting, Contents, Held}
use Rattle.vx_places.specs.declared.row.Row.{Row}
use Rattle.vx_places.specs.Numbers.{parcels_out, for_target}
use Rattle.vx_places.specs.Views.{row_at, stage_at, stage_items, held_items, here, here_if, outputs_if, parcels_here, Others, Same, AddsKeeper}
use Rattle.vx_places.specs.Capacities.{stage_capacities, line_capacity, capacities_if, held_capacity_if, AddsCapacities, AddsKeeperCapacities}
use Rattle.vx_places.specs.Laws.{HeldSays}
use Rattle.vx_places.specs.Looks.{AreEnded}
use Rattle.vx_places.specs.Calls.{AreEmpty, IsNew, IsNewKeeper, IsRow, IsThere, IsLent, IsVacant, EachVacant, empty_stages}
use Rattle.vx_places.proofs.Written.{no_outputs}
use Rattle.vx_places.proofs.Looking.{none_for, lent_unseen}

-- STAGES THAT ARE MADE
pub made_empty : (capacities : List ℕ) → AreEmpty (empty_stages capacities)
made_empty [] = tt
made_empty (room ∷ capacities) = (refl, made_empty capacities)

-- one stage more
pub stages_more : (capacities : List ℕ) (i : ℕ) (stage : Filled Parcel) → i < length capacities → stage.items ≡ [] → stage.room ≡ slice_index capacities i →
    empty_stages (take (i + 1) capacities) ≡ empty_stages (take i capacities) ++ stage ∷ []
stages_more [] i stage l none room = absurd (omega arith)
stages_more (r ∷ capacities) zero stage l none room =
    sym (ap (λ (items : List Parcel). record { items = items; room = stage.room } ∷ []) none ∙ ap (λ (n : ℕ). record { items = []; room = n } ∷ []) room)
stages_more (r ∷ capacities) (suc i) stage l none room =
    let e : suc i + 1 ≡ suc (i + 1) = omega arith in
    ap (λ (n : ℕ). empty_stages (take n (r ∷ capacities))) e ∙ ap (λ (ss : List (Filled Parcel)). record { items = []; room = r } ∷ ss) (stages_more capacities i stage (omega arith) none room)

no_items : (capacities : List ℕ) (s : ℕ) → stage_items (stage_at (empty_stages capacities) s) ≡ []
no_items [] s = refl
no_items (r ∷ capacities) zero = refl
no_items (r ∷ capacities) (suc s) = no_items capacities s

capacities_made : (capacities : List ℕ) → stage_capacities (empty_stages capacities) ≡ capacities
capacities_made [] = refl
capacities_made (room ∷ capacities) = ap (λ ns. room ∷ ns) (capacities_made capacities)

-- AN INSTANCE MORE, at which nothing stands
none_held : (room : ℕ) (held : Option (Filled Parcel)) → IsSomeAnd held (λ h. (h.items ≡ []) × (h.room ≡ room)) → (held_items held ≡ Some []) × (line_capacity held ≡ Some room)
none_held room None is = absurd is
none_held room (Some h) is = (ap Some is.0, ap Some is.1)

nothing_here : (capacities : List ℕ) (room : ℕ) (row : Row) → IsNew capacities room row → (p : Place) → here p row ≡ Some []
nothing_here capacities room row is (Outputs i) = ap (λ os. Some (parcels_out os)) is.outputs
nothing_here capacities room row is (Waiting i t) = ap (λ cs. Some (for_target t cs)) is.waiting
nothing_here capacities room row is (Contents i s) = ap (λ ss. Some (stage_items (stage_at ss s))) is.stages ∙ ap Some (no_items capacities s)
nothing_here capacities room row is (Held i) = (none_held room row.held is.held).0

last_row : (rows : List Row) (row : Row) → row_at (rows ++ row ∷ []) (length rows) ≡ Some row
last_row [] row = refl
last_row (r ∷ rows) row = last_row rows row

first_rows : (rows : List Row) (row : Row) (i : ℕ) → i < length rows → row_at (rows ++ row ∷ []) i ≡ row_at rows i
first_rows [] row i l = absurd (omega arith)
first_rows (r ∷ rows) row zero l = refl
first_rows (r ∷ rows) row (suc i) l = first_rows rows row i (omega arith)

module _ (capacities : List ℕ) (room : ℕ) (rows : List Row) (row : Row) (is : IsNew capacities room row) where
  pub added_same : Same rows (rows ++ row ∷ [])
  added_same = record { here = λ p. go (here_if p) (nothing_here capacities room row is p) rows (owner p); outputs = go outputs_if is.outputs rows }
    where
      go : {X : Type 0} (F : Option Row → X) → F (Some row) ≡ F None → (rs : List Row) (k : ℕ) → F (row_at (rs ++ row ∷ []) k) ≡ F (row_at rs k)
      go F none [] zero = none
      go F none [] (suc k) = refl
      go F none (r ∷ rs) zero = refl
      go F none (r ∷ rs) (suc k) = go F none rs k

  pub added_row : IsRow (IsNew capacities room) (rows ++ row ∷ []) (length rows)
  added_row = rw (last_row rows row) is

  pub capacities_added : AddsCapacities capacities room rows (rows ++ row ∷ [])
  capacities_added = record {
    stages = ap capacities_if (last_row rows row) ∙ ap stage_capacities is.stages ∙ capacities_made capacities;
    held = ap held_capacity_if (last_row rows row) ∙ (none_held room row.held is.held).1;
    others = λ i l. (ap capacities_if (first_rows rows row i l), ap held_capacity_if (first_rows rows row i l));
  }

-- AN INSTANCE MORE, which has a keeper
module _ (capacities : List ℕ) (rows : List Row) (row : Row) (is : IsNewKeeper capacities row) where
  -- what is so of the new row as of none is so of each place as before
  with_more : {X : Type 0} (F : Option Row → X) (rs : List Row) (k : ℕ) → (k ≡ length rs → F (Some row) ≡ F None) → F (row_at (rs ++ row ∷ []) k) ≡ F (row_at rs k)
  with_more F [] zero same = same refl
  with_more F [] (suc k) same = refl
  with_more F (r ∷ rs) zero same = refl
  with_more F (r ∷ rs) (suc k) same = with_more F rs k (λ e. same (ap suc e))

  others : Others (Held (length rows)) rows (rows ++ row ∷ [])
  others (Outputs i) other = with_more (here_if (Outputs i)) rows i (λ _. ap (λ os. Some (parcels_out os)) is.outputs)
  others (Waiting i t) other = with_more (here_if (Waiting i t)) rows i (λ _. ap (λ cs. Some (for_target t cs)) is.waiting)
  others (Contents i s) other = with_more (here_if (Contents i s)) rows i (λ _. ap (λ ss. Some (stage_items (stage_at ss s))) is.stages ∙ ap Some (no_items capacities s))
  others (Held i) other = with_more (here_if (Held i)) rows i (λ same. absurd (grind (arith, nat_tests, other, same)))

  pub keeper_added : AddsKeeper rows (rows ++ row ∷ [])
  keeper_added = record {
    held = ap (here_if (Held (length rows))) (last_row rows row) ∙ ap held_items is.held;
    others = others;
    outputs = λ i. with_more outputs_if rows i (λ _. is.outputs);
  }

  pub keeper_row : IsRow (IsNewKeeper capacities) (rows ++ row ∷ []) (length rows)
  keeper_row = rw (last_row rows row) is

  pub keeper_capacities : AddsKeeperCapacities capacities rows (rows ++ row ∷ [])
  keeper_capacities = record {
    stages = ap capacities_if (last_row rows row) ∙ ap stage_capacities is.stages ∙ capacities_made capacities;
    held = ap held_capacity_if (last_row rows row) ∙ ap line_capacity is.held;
    others = λ i l. (ap capacities_if (first_rows rows row i l), ap held_capacity_if (first_rows rows row i l));
  }

-- WHAT IS LENT
kept_or_lent : (held : Option (Filled Parcel)) → ((ps : List Parcel) → held_items held ≡ Some ps → IsSome held) × (held_items held ≡ None → held ≡ None)
kept_or_lent None = (λ ps there. absurd cc, λ none. refl)
kept_or_lent (Some h) = (λ ps there. refl, λ none. absurd cc)

pub held_says : HeldSays
held_says [] i l = absurd (omega arith)
held_says (r ∷ rs) i l = rw (slice_get-get_or (r ∷ rs) i r l) (kept_or_lent (get_or (r ∷ rs) i r).held)

-- and stays so where the place has what it had
pub lent_still : (old new : List Row) (i : ℕ) → IsThere new i → parcels_here new (Held i) ≡ parcels_here old (Held i) → IsLent old i → IsLent new i
lent_still old new i there same lent = (held_says new i there).1 (same ∙ lent_unseen old i lent)

-- ROWS AT WHICH NOTHING STANDS
-- the last of some, and the others
pub last_empty : (stages : List (Filled Parcel)) (stage : Filled Parcel) → AreEmpty (stages ++ stage ∷ []) → AreEmpty stages × (stage.items ≡ [])
last_empty [] stage are = (tt, are.0)
last_empty (s ∷ stages) stage are = let rest = last_empty stages stage are.1 in ((are.0, rest.0), rest.1)

pub last_vacant : (rows : List Row) (row : Row) → EachVacant (rows ++ row ∷ []) → EachVacant rows × IsVacant row
last_vacant [] row are = (tt, are.0)
last_vacant (r ∷ rows) row are = let rest = last_vacant rows row are.1 in ((are.0, rest.0), rest.1)

empty_held : (held : Option (Filled Parcel)) → IfSome (held_items held) (λ ps. ps ≡ []) → IfSome held (λ h. h.items ≡ [])
empty_held None none = tt
empty_held (Some h) none = none

vacant : (i : ℕ) (row : Row) → ((p : Place) → owner p ≡ i → IfSome (here p row) (λ ps. ps ≡ [])) → IsVacant row
vacant i row none = record {
  outputs = no_outputs row.outputs.items (none (Outputs i) refl);
  waiting = none_for row.waiting.items (λ t. none (Waiting i t) refl);
  stages = recursion_from_All (λ (stage : Filled Parcel). stage.items ≡ []) row.stages.items
      (λ s d l. rw (slice_get-get_or row.stages.items s d l) at (none (Contents i s) refl));
  held = empty_held row.held (none (Held i) refl);
}

pub are_vacant : (rows : List Row) → AreEnded rows → EachVacant rows
are_vacant rows ended = recursion_from_All IsVacant rows
    (λ i d l. vacant i (get_or rows i d) (λ p own. rw (own, slice_get-get_or rows i d l) at (ended i l p own)))
