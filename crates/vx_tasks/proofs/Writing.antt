-- What a sink writes of its parcels.
use Rattle.std.proofs.Common.{◌≡◌, ℕ, zero, suc, ◌+◌, ◌<◌, List, [], ◌∷◌, ◌++◌, length, take, Option, Some, None, refl, sym, ap, ◌∙◌, arith, inl, inr}
use Rattle.std.specs.Prelude.{◌≢◌, slice_get, map, IsSomeAnd}
use Rattle.std.proofs.lemmas.List.{append_assoc, append-nil}
use Rattle.vx_value.specs.declared.event.Event.{Event}
use Rattle.vx_codec.specs.declared.codec.Codec.{Codec}
use Rattle.vx_ledger.specs.Copies.{Copy}
use Rattle.vx_ledger.specs.declared.parcel.Parcel.{Parcel}
use Rattle.vx_plan.specs.declared.component.Component.{Component}
use Rattle.vx_plan.specs.Options.{encoding}
use Rattle.vx_record.specs.Records.{Record}
use Rattle.vx_record.specs.Installs.{component_of}
use Rattle.vx_record.specs.Parcels.{event_of, first_copy, parcel_event}
use Rattle.vx_record.specs.Encoding.{encode_event, encode, bytes_for, encoded}
use Rattle.vx_record.specs.Places.Place.{Held}
use Rattle.vx_record.specs.Shifts.{at}
use Rattle.vx_places.specs.Numbers.{numbers, IsCopyIn, EachFilled}
use Rattle.vx_ledger.specs.Copies.{numbers_of}
use Rattle.vx_places.specs.Holding.{AreKnown}
use Rattle.vx_tasks.specs.Doing.{written}
use Rattle.vx_tasks.specs.Out.{IsHeld}

one_more : (i : ℕ) → suc i ≡ i + 1
one_more i = omega arith

written_next : (codec : Codec) (ps : List Parcel) (i : ℕ) (p : Parcel) → slice_get ps i ≡ Some p → written codec (take (suc i) ps) ≡ written codec (take i ps) ++ encode_event codec p.event
written_next codec [] i p is = cc
written_next codec (q ∷ ps) zero p is = let same : q ≡ p = cc in ap (λ (x : Parcel). encode_event codec x.event ++ []) same ∙ append-nil (encode_event codec p.event)
written_next codec (q ∷ ps) (suc i) p is =
    ap (λ (w : List ℕ). encode_event codec q.event ++ w) (written_next codec ps i p is) ∙ sym (append_assoc (encode_event codec q.event) (written codec (take i ps)) (encode_event codec p.event))

pub written_step : (codec : Codec) (now new : List ℕ) (ps : List Parcel) (i : ℕ) (p : Parcel) → slice_get ps i ≡ Some p → now ≡ written codec (take i ps) → new ≡ now ++ encode_event codec p.event → new ≡ written codec (take (i + 1) ps)
written_step codec now new ps i p is so added =
    added ∙ ap (λ (w : List ℕ). w ++ encode_event codec p.event) so ∙ sym (written_next codec ps i p is) ∙ ap (λ k. written codec (take k ps)) (one_more i)

pub no_parcel : (ps : List Parcel) (i : ℕ) → i < length ps → slice_get ps i ≡ None → ⊥
no_parcel [] i l none = omega arith
no_parcel (p ∷ ps) zero l none = cc
no_parcel (p ∷ ps) (suc i) l none = no_parcel ps i (omega arith) none

-- a parcel that is known has the event that the record has for its first copy
first_said : (h : Record) (p : Parcel) → ((copy : Copy) → IsCopyIn p.finalizers copy → event_of h copy.number ≡ p.event) → p.finalizers ≢ [] →
    parcel_event h (numbers_of p.finalizers) ≡ p.event
first_said h p said filled = go p.finalizers said filled
  where
    go : (cs : List Copy) → ((copy : Copy) → IsCopyIn cs copy → event_of h copy.number ≡ p.event) → cs ≢ [] → event_of h (first_copy (numbers_of cs)) ≡ p.event
    go [] said filled = absurd (filled refl)
    go (c ∷ cs) said filled = said c (inl refl)

-- so some parcels have the events that the record has for them
pub events_said : (h : Record) (ps : List Parcel) → AreKnown h ps → EachFilled ps → map (parcel_event h) (numbers ps) ≡ map (λ (p : Parcel). p.event) ps
events_said h [] known filled = refl
events_said h (p ∷ ps) known filled =
    ap (λ (e : Event). e ∷ map (parcel_event h) (numbers ps)) (first_said h p (λ copy is. (known p.event copy (inl (refl, is))).said) filled.0)
    ∙ ap (λ (es : List Event). p.event ∷ es) (events_said h ps (λ event copy is. known event copy (inr is)) filled.1)

written_events : (codec : Codec) (ps : List Parcel) → written codec ps ≡ encode codec (map (λ (p : Parcel). p.event) ps)
written_events codec [] = refl
written_events codec (p ∷ ps) = ap (λ (w : List ℕ). encode_event codec p.event ++ w) (written_events codec ps)

by_codec : (o : Option Codec) (codec : Codec) (events : List Event) → o ≡ Some codec → encode codec events ≡ (elim o [ None ↦ [] | Some c ↦ encode c events ])
by_codec o codec events is = sym (ap (λ (x : Option Codec). elim x [ None ↦ [] | Some c ↦ encode c events ]) is)

by_component : (o : Option Component) (codec : Codec) (events : List Event) → IsSomeAnd o (λ (c : Component). encoding c.settings ≡ Some codec) →
    encode codec events ≡ (elim o [ None ↦ [] | Some c ↦ bytes_for c.settings events ])
by_component None codec events is = absurd is
by_component (Some c) codec events is = by_codec (encoding c.settings) codec events is

-- what a sink writes of all that it holds is what the record has it give
pub written_all : (h : Record) (i : ℕ) (codec : Codec) (parcels : List Parcel) → IsSomeAnd (component_of h i) (λ (c : Component). encoding c.settings ≡ Some codec) → IsHeld h i parcels →
    written codec parcels ≡ encoded h i (at h (Held i))
written_all h i codec parcels come held =
    written_events codec parcels
    ∙ ap (encode codec) (sym (events_said h parcels held.known held.filled))
    ∙ by_component (component_of h i) codec (map (parcel_event h) (numbers parcels)) come
    ∙ ap (encoded h i) held.held
