-- One state is written, and what a call leaves of all.
use Rattle.std.proofs.Common.{◌≡◌, ◌∙◌, ◌≢◌, ◌<◌, inl, inr, ℕ, zero, suc, Bool, List, [], ◌∷◌, Option, Some, None, IfSome, length, refl, ap, arith, slice_get}
use Rattle.std.specs.Prelude.{◌||◌, IsSomeAnd, slice_set, get_or, false}
use Rattle.std.proofs.lemmas.Bool.{cases_eq}
use Rattle.std.proofs.lemmas.Option.{IfSome_then, slice_get_read}
use Rattle.vx_ends.specs.Observation.{Observation}
use Rattle.vx_ends.specs.declared.position.Position.{Position}
use Rattle.vx_counts.specs.declared.counts.Counts.{Counts}
use Rattle.vx_tasks.specs.declared.task.Task.{Task}
use Rattle.vx_instances.specs.declared.facts.Facts.{Facts}
use Rattle.vx_instances.specs.declared.progress.Progress.{Progress}
use Rattle.vx_instances.specs.declared.state.InstanceState.{InstanceState}
use Rattle.vx_instances.specs.Calls.{Leaves}
use Rattle.vx_instances.specs.Staying.{EachState, OneState, Stays, IsLeft, HasRead}
use Rattle.vx_instances.specs.Laws.{StaysKnown}

module _ {P : Type 0} where
  pub written : (states : List (InstanceState P)) (i : ℕ) (new : InstanceState P) → i < length states → slice_get (slice_set states i new) i ≡ Some new
  written [] i new l = absurd (omega arith)
  written (r ∷ states) zero new l = refl
  written (r ∷ states) (suc i) new l = written states i new (omega arith)

  pub read_state : (states : List (InstanceState P)) (i : ℕ) (state : InstanceState P) → i < length states → state ≡ get_or states i state → slice_get states i ≡ Some state
  read_state states i state = slice_get_read states (length states) i state refl

  pub other_state : (states : List (InstanceState P)) (i j : ℕ) (new : InstanceState P) → j ≢ i → slice_get (slice_set states i new) j ≡ slice_get states j
  other_state [] i j new other = refl
  other_state (r ∷ states) zero zero new other = absurd (other refl)
  other_state (r ∷ states) zero (suc j) new other = refl
  other_state (r ∷ states) (suc i) zero new other = refl
  other_state (r ∷ states) (suc i) (suc j) new other = other_state states i j new (λ e. other (ap suc e))

  pub size_set : (states : List (InstanceState P)) (i : ℕ) (new : InstanceState P) → length (slice_set states i new) ≡ length states
  size_set [] i new = refl
  size_set (r ∷ states) zero new = refl
  size_set (r ∷ states) (suc i) new = ap suc (size_set states i new)

  -- what is said of each state behind a write: of the one that is written, and of the others by what was said of them
  pub each_set : (F G : ℕ → InstanceState P → Type 0) (old : List (InstanceState P)) (i : ℕ) (is : InstanceState P) → i < length old →
      ((j : ℕ) (state : InstanceState P) → j ≢ i → F j state → G j state) → G i is →
      ((j : ℕ) → IfSome (slice_get old j) (F j)) → (j : ℕ) → IfSome (slice_get (slice_set old i is) j) (G j)
  each_set F G old i is l others own each j = elim (cases_eq j i) [
    | inl same ↦ rw (same, written old i is l) own
    | inr other ↦ rw (other_state old i j is other) (IfSome_then (slice_get old j) (each j) (λ state. others j state other))
  ]

  itself : (o : Option (InstanceState P)) → IfSome o (λ is. IsSomeAnd o (λ was. Stays was is))
  itself None = tt
  itself (Some state) = assumption

  -- CALLS
  -- a call that writes the state of an instance: that is there
  module _ (i : ℕ) {items now : List (InstanceState P)} {was : InstanceState P} (view : items ≡ now) (l : i < length now) (read : was ≡ get_or items i was) where
    pub there : slice_get now i ≡ Some was
    there = rw (← view) (read_state items i was (rw view l) read)

    -- what is said of both
    pub writes : (F : InstanceState P → InstanceState P → Type 0) (is : InstanceState P) → F was is → OneState F i now (slice_set items i is)
    writes F is so = rw view (record { one = rw (there, written now i is l) so; others = λ j other. other_state now i j is other })

    -- calls that write neither its task nor what isn't known any more leave that of all
    pub stay : (f : Facts) (p : Progress) (c : Counts) → f.owing ≡ was.facts.owing → f.behind ≡ was.facts.behind → f.starved ≡ was.facts.starved →
        EachState Stays now (slice_set items i (record was { facts = f; progress = p; counts = c }))
    stay f p c owing behind starved =
        let so : Stays was (record was { facts = f; progress = p; counts = c }) = assumption in
        rw view (each_set (λ j n. IsSomeAnd (slice_get now j) (λ w. Stays w n)) (λ j n. IsSomeAnd (slice_get now j) (λ w. Stays w n)) now i _ l (λ j state other stays. stays)
        (rw there so) (λ j. itself (slice_get now j)))

    -- a read of an instance
    pub read_stays : (f : Facts) (c : Counts) (unobserved : Bool) → f.owing ≡ was.facts.owing → f.behind ≡ (unobserved || was.facts.behind) → f.starved ≡ was.facts.starved →
        OneState (HasRead unobserved) i now (slice_set items i (record was { facts = f; counts = c }))
    read_stays f c unobserved owing behind starved = writes (HasRead unobserved) (record was { facts = f; counts = c }) (assumption)

    -- its task leaves
    pub left_stays : (moment : ℕ) (is : InstanceState P) (task : Task P) (positions : Option (List Position)) → Leaves moment was is task positions →
        OneState (IsLeft task) i now (slice_set items i is)
    left_stays moment is task positions leaves = writes (IsLeft task) is (rw leaves.rest (assumption leaves.had))

-- what is said of a state that was is said of the one that is
carried : {A : Type 0} (o n : Option A) (R : A → A → Type 0) (F : A → Type 0) → ((was is : A) → R was is → F was → F is) →
    IfSome n (λ is. IsSomeAnd o (λ was. R was is)) → IfSome o F → IfSome n F
carried o None R F step beside said = tt
carried None (Some is) R F step beside said = absurd beside
carried (Some was) (Some is) R F step beside said = step was is beside said

pub stays_known : {P : Type 0} (observe : P → Observation) → StaysKnown observe
stays_known observe old new i each = record {
  settled = carried (slice_get old i) (slice_get new i) Stays (λ state. state.facts.owing ≡ false) (λ was is so known. so.flags.owing ∙ known) (each i);
  counts = carried (slice_get old i) (slice_get new i) Stays (λ state. state.facts.behind ≡ false) (λ was is so known. so.flags.behind ∙ known) (each i);
  shut = carried (slice_get old i) (slice_get new i) Stays (λ state. IfSome state.task (λ task. (observe task.port).started ≡ false)) (λ was is so known. rw so.task known) (each i);
}
