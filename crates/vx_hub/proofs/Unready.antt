-- While a source may give more, an instance in whose buffer and among whose held parcels nothing stands has no work, unless it is a source.
use Rattle.std.proofs.Common.{◌≡◌, ◌∙◌, ◌⊎◌, ℕ, zero, suc, ◌+◌, ◌<◌, ◌≤◌, Bool, true, false, ◌&&◌, ◌||◌, List, [], ◌∷◌, length, slice_index, Option, Some, None, IfSome, IfNone, IsSomeAnd, inl, inr, refl, sym, ap, subst, arith}
use Rattle.std.specs.Prelude.{not, nat_le, slice_get, if◌then◌else◌}
use Rattle.std.proofs.lemmas.Bool.{cases_Bool, cases_eq}
use Rattle.vx_value.specs.Texts.{is_empty}
use Rattle.vx_ends.specs.Observation.{Observation}
use Rattle.vx_ledger.specs.declared.parcel.Parcel.{Parcel}
use Rattle.vx_plan.specs.Components.{is_source, is_transform, is_sink}
use Rattle.vx_plan.specs.declared.class.Class.{Class}
use Rattle.vx_plan.specs.declared.class.Class.TheVariants.{Source, Transform, Sink}
use Rattle.vx_plan.specs.declared.component.Component.{Component}
use Rattle.vx_record.specs.Records.{Record}
use Rattle.vx_record.specs.Installs.{component_of, source_at, transform_at, sink_at, device_at, is_closed}
use Rattle.vx_record.specs.Lists.{buffered, held}
use Rattle.vx_record.specs.Owing.{is_source_done}
use Rattle.vx_record.specs.Ready.{is_ready, is_source_ready, is_transform_ready, is_sink_ready}
use Rattle.vx_record.specs.Routing.{all_dry, is_dry, is_ending, is_named, is_sent}
use Rattle.vx_record.specs.SinkBatches.{is_full_batch, is_timed_out, is_last_batch, was_attempted, retry_from}
use Rattle.vx_record.proofs.Wired.{component_in_place}
use Rattle.vx_places.specs.Marks.{IsBefore, IsUnfilled}
use Rattle.vx_moves.specs.declared.engine.EngineState.{EngineState}
use Rattle.vx_moves.specs.Stands.{Stands}
use Rattle.vx_ready.proofs.Done.{held_is, unbuffered_is}
use Rattle.vx_ready.proofs.Naming.{ending_there}
use Rattle.vx_ready.proofs.Surveys.{one_gives}
use Rattle.vx_hub.specs.Leases.{NoneFoundAt, NoneFound, NoneFilled, NoneReady, GoesFirst}
use Rattle.vx_hub.specs.Standing.{AreSources}
use Rattle.vx_hub.proofs.Leases.{NoneBelow, none_ready}

-- THE FILLED ONES
cases_below : (a b : ℕ) → (a < b) ⊎ (b ≤ a)
cases_below a zero = inr (omega arith)
cases_below zero (suc b) = inl (omega arith)
cases_below (suc a) (suc b) = elim (cases_below a b) [ inl l ↦ inl (omega (arith, l)) | inr l ↦ inr (omega (arith, l)) ]

module _ {P : Type 0} (is_of : Record → ℕ → Bool) (engine : EngineState P) (now from : ℕ) (next : Option ℕ) (asked : NoneFilled is_of engine now from)
    (passed : (i : ℕ) → from ≤ i → i < length engine.places → IsBefore i next → IsUnfilled engine.places i) where
  pub filled_all : (n : ℕ) → n ≤ length engine.places → ((i : ℕ) → i < n → IsBefore i next) → NoneFilled is_of engine now n
  filled_all n within before i l = elim (cases_below i from) [
    | inl less ↦ asked i less
    | inr more ↦ inl (passed i more (omega (arith, l, within)) (before i l))
  ]

  pub filled_further : (k : ℕ) → k ≤ length engine.places → ((i : ℕ) → i < k → IsBefore i next) → (is_of engine.log k ≡ true → NoneFoundAt engine now k) → NoneFilled is_of engine now (k + 1)
  filled_further k within before here i l = elim (cases_eq i k) [
    | inl same ↦ inr (subst (λ (j : ℕ). is_of engine.log j ≡ true → NoneFoundAt engine now j) (sym same) here)
    | inr other ↦ filled_all k within before i (omega (arith, l, other))
  ]

-- AN UNFILLED ONE
transform_rests : (sent none ending holds : Bool) → none ≡ true → ending ≡ false → (sent && (not none || (ending && none && not holds))) ≡ false
transform_rests sent none ending holds buffer over = grind (arith, buffer, over)

sink_rests : (holds none full retry device closed source done ending sent : Bool) → holds ≡ true → none ≡ true → ending ≡ false → source ≡ false →
    (((not holds && full) && retry) || (not (not holds && full) && not none) || (device && not closed && (if source then done else (ending && none && sent && holds)))) ≡ false
sink_rests holds none full retry device closed source done ending sent held buffer over other = grind (arith, held, buffer, over, other)

none_tests : {X : Type 0} (xs : List X) → 0 ≡ length xs → is_empty xs ≡ true
none_tests [] same = refl
none_tests (x ∷ xs) same = absurd (omega (arith, same))

module _ {P : Type 0} {observe : P → Observation} {engine : EngineState P} (stands : Stands observe engine) (now : ℕ) (dry : all_dry engine.log ≡ false) where
  module _ (i : ℕ) (within : i < length engine.states) (other : source_at engine.log i ≡ false) (unfilled : IsUnfilled engine.places i) where
    buffer_none : is_empty (buffered engine.log i) ≡ true
    buffer_none = sym (unbuffered_is observe engine i true stands (λ e. unfilled.0, λ e. refl))

    held_none : is_empty (held engine.log i) ≡ true
    held_none = none_tests (held engine.log i) (held_is observe engine i 0 stands (subst (λ (o : Option (List Parcel)). IsSomeAnd o (λ parcels. 0 ≡ length parcels)) (sym unfilled.1) refl))

    unending : is_ending engine.log i ≡ false
    unending = sym (ending_there observe engine stands i within false false (is_named engine.log i) (sym other) (sym dry) refl)

    unfilled_unready : is_ready engine.log i now ≡ false
    unfilled_unready = go (component_of engine.log i) other
      where
        h : Record
        h = engine.log

        by_class : (k : Class) → (elim k [ Source ↦ true | Transform ↦ false | Sink ↦ false ]) ≡ false →
            (elim k [ Source ↦ is_source_ready h i now | Transform ↦ is_transform_ready h i | Sink ↦ is_sink_ready h i now ]) ≡ false
        by_class Source no_source = cc
        by_class Transform no_source = transform_rests (is_sent h i) (is_empty (buffered h i)) (is_ending h i) (is_empty (held h i)) buffer_none unending
        by_class Sink no_source = sink_rests (is_empty (held h i)) (is_empty (buffered h i)) (is_full_batch h i || is_timed_out h i now || is_last_batch h i || was_attempted h i) (nat_le (retry_from h i) now)
            (device_at h i) (is_closed h i) (source_at h i) (is_source_done h i) (is_ending h i) (is_sent h i) held_none buffer_none unending other

        go : (o : Option Component) → (elim o [ None ↦ false | Some c ↦ is_source c ]) ≡ false →
            (elim o [ None ↦ false | Some c ↦ elim c.class [ Source ↦ is_source_ready h i now | Transform ↦ is_transform_ready h i | Sink ↦ is_sink_ready h i now ] ]) ≡ false
        go None no_source = refl
        go (Some c) no_source = by_class c.class no_source

  -- so it is of all of a class, which aren't sources, where the filled ones were asked
  pub none_of_class : (is_of : Record → ℕ → Bool) → ((i : ℕ) → is_of engine.log i ≡ true → source_at engine.log i ≡ false) →
      NoneFilled is_of engine now (length engine.states) → NoneFound is_of engine now (length engine.states)
  none_of_class is_of others asked i within is = elim (asked i within) [
    | inl unfilled ↦ λ settled usable alone. unfilled_unready i within (others i is) unfilled
    | inr none ↦ none is
  ]

-- a sink is no source, and neither is a transform
sink_other : (o : Option Component) → (elim o [ None ↦ false | Some c ↦ is_sink c ]) ≡ true → (elim o [ None ↦ false | Some c ↦ is_source c ]) ≡ false
sink_other None is = cc
sink_other (Some c) is = go c.class is
  where
    go : (k : Class) → (elim k [ Source ↦ false | Transform ↦ false | Sink ↦ true ]) ≡ true → (elim k [ Source ↦ true | Transform ↦ false | Sink ↦ false ]) ≡ false
    go Source is = cc
    go Transform is = cc
    go Sink is = refl

transform_other : (o : Option Component) → (elim o [ None ↦ false | Some c ↦ is_transform c ]) ≡ true → (elim o [ None ↦ false | Some c ↦ is_source c ]) ≡ false
transform_other None is = cc
transform_other (Some c) is = go c.class is
  where
    go : (k : Class) → (elim k [ Source ↦ false | Transform ↦ true | Sink ↦ false ]) ≡ true → (elim k [ Source ↦ true | Transform ↦ false | Sink ↦ false ]) ≡ false
    go Source is = cc
    go Transform is = refl
    go Sink is = cc

pub sink_unsourced : (h : Record) (i : ℕ) → sink_at h i ≡ true → source_at h i ≡ false
sink_unsourced h i = sink_other (component_of h i)

pub transform_unsourced : (h : Record) (i : ℕ) → transform_at h i ≡ true → source_at h i ≡ false
transform_unsourced h i = transform_other (component_of h i)

-- THE SOURCES
module _ {P : Type 0} {observe : P → Observation} {engine : EngineState P} (stands : Stands observe engine) (sources : List ℕ)
    (are : AreSources engine.run.plan.components (length engine.states) sources) where
  in_place : (i : ℕ) → component_of engine.log i ≡ slice_get engine.run.plan.components i
  in_place i = component_in_place engine.log engine.run.plan i stands.legal stands.run.installed

  -- each that is kept is one
  pub source_among : (k i : ℕ) → slice_get sources k ≡ Some i → (i < length engine.states) × (source_at engine.log i ≡ true)
  source_among k i at =
      let is = subst (λ (o : Option ℕ). IfSome o (λ j. (j < length engine.states) × IsSomeAnd (slice_get engine.run.plan.components j) (λ c. is_source c ≡ true))) at (are.only k) in
      (is.0, subst (λ (o : Option Component). (elim o [ None ↦ false | Some c ↦ is_source c ]) ≡ true) (sym (in_place i)) (there (slice_get engine.run.plan.components i) is.1))
    where
      there : (o : Option Component) → IsSomeAnd o (λ c. is_source c ≡ true) → (elim o [ None ↦ false | Some c ↦ is_source c ]) ≡ true
      there None never = absurd never
      there (Some c) is = is

  pub one_gives_more : (k i : ℕ) → slice_get sources k ≡ Some i → is_dry engine.log i ≡ false → all_dry engine.log ≡ false
  one_gives_more k i at wet =
      let is = source_among k i at in
      sym (one_gives observe engine stands i true is.0 (sym (ap (λ (b : Bool). b && not (is_dry engine.log i)) is.1 ∙ ap not wet)) refl)

  -- and each one is kept, so it was asked
  asked_source : (now : ℕ) → ((k : ℕ) → IfSome (slice_get sources k) (NoneFoundAt engine now)) → (i : ℕ) → source_at engine.log i ≡ true → NoneFoundAt engine now i
  asked_source now none i source = go (slice_get engine.run.plan.components i) (are.all i) (subst (λ (o : Option Component). (elim o [ None ↦ false | Some c ↦ is_source c ]) ≡ true) (in_place i) source)
    where
      go : (o : Option Component) → IfSome o (λ c. is_source c ≡ true → (k : ℕ) × (slice_get sources k ≡ Some i)) → (elim o [ None ↦ false | Some c ↦ is_source c ]) ≡ true → NoneFoundAt engine now i
      go None all is = cc
      go (Some c) all is = let at = all is in subst (λ (o : Option ℕ). IfSome o (NoneFoundAt engine now)) at.1 (none at.0)

  -- NONE AT ALL
  classes : (now : ℕ) (i : ℕ) → source_at engine.log i ≡ false → (sink_at engine.log i ≡ true → NoneFoundAt engine now i) → (transform_at engine.log i ≡ true → NoneFoundAt engine now i) → NoneFoundAt engine now i
  classes now i other sink transform = go (component_of engine.log i) refl other sink transform
    where
      go : (o : Option Component) → component_of engine.log i ≡ o → (elim o [ None ↦ false | Some c ↦ is_source c ]) ≡ false →
          ((elim o [ None ↦ false | Some c ↦ is_sink c ]) ≡ true → NoneFoundAt engine now i) → ((elim o [ None ↦ false | Some c ↦ is_transform c ]) ≡ true → NoneFoundAt engine now i) → NoneFoundAt engine now i
      go None is nil s t = λ settled usable alone. ap (λ (o : Option Component). elim o [ None ↦ false | Some c ↦ elim c.class [ Source ↦ is_source_ready engine.log i now | Transform ↦ is_transform_ready engine.log i | Sink ↦ is_sink_ready engine.log i now ] ]) is
      go (Some c) is nil s t = by_class c.class nil s t
        where
          by_class : (k : Class) → (elim k [ Source ↦ true | Transform ↦ false | Sink ↦ false ]) ≡ false →
              ((elim k [ Source ↦ false | Transform ↦ false | Sink ↦ true ]) ≡ true → NoneFoundAt engine now i) → ((elim k [ Source ↦ false | Transform ↦ true | Sink ↦ false ]) ≡ true → NoneFoundAt engine now i) → NoneFoundAt engine now i
          by_class Source nil s t = cc
          by_class Transform nil s t = t refl
          by_class Sink nil s t = s refl

  pub none_at_all : (now : ℕ) → engine.run.latest ≤ now → NoneFound sink_at engine now (length engine.states) → NoneFound transform_at engine now (length engine.states) →
      ((k : ℕ) → IfSome (slice_get sources k) (NoneFoundAt engine now)) → NoneReady engine now
  none_at_all now latest sinks transforms none = none_ready now (length engine.states) stands latest (omega arith) each
    where
      each : NoneBelow engine now (length engine.states)
      each i within = elim (cases_Bool (source_at engine.log i)) [
        | inl source ↦ asked_source now none i source
        | inr other ↦ classes now i other (sinks i within) (transforms i within)
      ]

-- WHO GOES FIRST
pub first_sink : {P : Type 0} (engine : EngineState P) (now i : ℕ) → sink_at engine.log i ≡ true → GoesFirst engine now i
first_sink engine now i sink = record {
  sinks = λ no. let clash : true ≡ false = sym sink ∙ no in let never : ⊥ = cc in absurd never;
  transforms = λ source. let clash : false ≡ true = sym (sink_unsourced engine.log i sink) ∙ source in let never : ⊥ = cc in absurd never;
}

pub first_transform : {P : Type 0} (engine : EngineState P) (now i : ℕ) → transform_at engine.log i ≡ true → NoneFound sink_at engine now (length engine.states) → GoesFirst engine now i
first_transform engine now i transform none = record {
  sinks = λ no. none;
  transforms = λ source. let clash : false ≡ true = sym (transform_unsourced engine.log i transform) ∙ source in let never : ⊥ = cc in absurd never;
}

-- BY ONE MORE
pub number_there : (xs : List ℕ) (k : ℕ) → k < length xs → slice_get xs k ≡ Some (slice_index xs k)
number_there [] k inside = absurd (omega arith)
number_there (z ∷ ys) zero inside = refl
number_there (z ∷ ys) (suc k) inside = number_there ys k (omega (arith, inside))

pub found_more : (F : ℕ → Type 0) (xs : List ℕ) (k : ℕ) → k < length xs → F (slice_index xs k) → ((j : ℕ) → j < k → IfSome (slice_get xs j) F) → (j : ℕ) → j < k + 1 → IfSome (slice_get xs j) F
found_more F xs k within one below j l = elim (cases_eq j k) [
  | inl same ↦ subst (λ (o : Option ℕ). IfSome o F) (sym (ap (slice_get xs) same ∙ number_there xs k within)) one
  | inr less ↦ below j (omega (arith, l, less))
]

pub found_all : (F : ℕ → Type 0) (xs : List ℕ) (k : ℕ) → length xs ≤ k → ((j : ℕ) → j < k → IfSome (slice_get xs j) F) → (j : ℕ) → IfSome (slice_get xs j) F
found_all F xs k most below j = elim (cases_below j k) [
  | inl less ↦ below j less
  | inr past ↦ subst (λ (o : Option ℕ). IfSome o F) (sym (past_none xs j (omega (arith, most, past)))) tt
]
  where
    past_none : (ys : List ℕ) (i : ℕ) → length ys ≤ i → slice_get ys i ≡ None
    past_none [] i l = refl
    past_none (y ∷ ys) zero l = absurd (omega (arith, l))
    past_none (y ∷ ys) (suc i) l = past_none ys i (omega (arith, l))

pub each_some : {X : Type 0} {F : X → Type 0} (o : Option X) → ((x : X) → F x) → IfSome o F
each_some None all = tt
each_some (Some x) all = all x

pub none_then : {X A B : Type 0} (o : Option X) → IfNone o A → (A → B) → IfNone o B
none_then None is leads = leads is
none_then (Some x) is leads = tt
