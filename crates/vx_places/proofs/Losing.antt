-- What is left of a parcel that loses its last copy.
use Rattle.std.proofs.Common.{◌≡◌, ℕ, List, [], ◌∷◌, ◌++◌, refl, sym, ap, ◌∙◌, Option, Some, None, inl, inr, subst}
use Rattle.std.specs.Prelude.{is_some, not}
use Rattle.vx_value.specs.Texts.{is_empty}
use Rattle.vx_value.specs.declared.event.Event.{Event}
use Rattle.vx_ledger.specs.Copies.{Copy}
use Rattle.vx_ledger.specs.declared.parcel.Parcel.{Parcel}
use Rattle.vx_transform.specs.declared.output.Output.{Output}
use Rattle.vx_places.specs.Numbers.{IsCopyIn}
use Rattle.vx_places.specs.Views.{IsAmong, KeepsOn}
use Rattle.vx_places.specs.Calls.{LosesCopy, LosesLast, left_of, unless_bare}

-- a copy that is left was there
copy_before : (cs : List Copy) (copy c : Copy) → IsCopyIn cs c → IsCopyIn (cs ++ copy ∷ []) c
copy_before [] copy c is = absurd is
copy_before (d ∷ cs) copy c (inl here) = inl here
copy_before (d ∷ cs) copy c (inr more) = inr (copy_before cs copy c more)

pub among_before : (event : Event) (cs : List Copy) (copy : Copy) (rest : List Parcel) (ev : Event) (c : Copy) → IsAmong (left_of event cs rest) ev c →
    IsAmong (record { event = event; finalizers = cs ++ copy ∷ [] } ∷ rest) ev c
among_before event [] copy rest ev c is = inr is
among_before event (d ∷ cs) copy rest ev c (inl here) = inl (here.0, copy_before (d ∷ cs) copy c here.1)
among_before event (d ∷ cs) copy rest ev c (inr more) = inr more

-- what is left, before others
abbrev pub and_left : Option Parcel → List Parcel → List Parcel
and_left None rest = rest
and_left (Some parcel) rest = parcel ∷ rest

left_is : (event : Event) (cs : List Copy) (rest : List Parcel) → and_left (unless_bare event cs) rest ≡ left_of event cs rest
left_is event [] rest = refl
left_is event (c ∷ cs) rest = refl

-- nothing is left of it where no copy is
none_left : (event : Event) (cs : List Copy) → not (is_some (unless_bare event cs)) ≡ is_empty cs
none_left event [] = refl
none_left event (c ∷ cs) = refl

pub loses_first : (copy : Copy) (parcel : Parcel) (left : Option Parcel) (rest : List Parcel) → LosesLast copy parcel left →
    LosesCopy copy (not (is_some left)) (parcel ∷ rest) (and_left left rest)
loses_first copy parcel left rest less = record {
  event = parcel.event;
  left = less.left;
  rest = rest;
  was = ap (λ (cs : List Copy). record { event = parcel.event; finalizers = cs } ∷ rest) less.was;
  now = ap (λ (o : Option Parcel). and_left o rest) less.now ∙ left_is parcel.event less.left rest;
  alone = ap (λ (o : Option Parcel). not (is_some o)) less.now ∙ none_left parcel.event less.left;
}

-- and what is left of an output
abbrev pub and_left_on : ℕ → Option Parcel → List Output → List Output
and_left_on ports None rest = rest
and_left_on ports (Some parcel) rest = record { ports = ports; parcel = parcel } ∷ rest

on_before : (set : ℕ) (event : Event) (cs : List Copy) (copy : Copy) (rest : List Output) →
    KeepsOn (record { ports = set; parcel = record { event = event; finalizers = cs ++ copy ∷ [] } } ∷ rest) (and_left_on set (unless_bare event cs) rest)
on_before set event [] copy rest ports c is = inr is
on_before set event (d ∷ cs) copy rest ports c (inl here) = inl (here.0, copy_before (d ∷ cs) copy c here.1)
on_before set event (d ∷ cs) copy rest ports c (inr more) = inr more

pub keeps_first : (set : ℕ) (copy : Copy) (parcel : Parcel) (left : Option Parcel) (rest : List Output) → LosesLast copy parcel left →
    KeepsOn (record { ports = set; parcel = parcel } ∷ rest) (and_left_on set left rest)
keeps_first set copy parcel left rest less =
    subst (λ (cs : List Copy). KeepsOn (record { ports = set; parcel = record { event = parcel.event; finalizers = cs } } ∷ rest) (and_left_on set left rest)) (sym less.was)
    (subst (λ (o : Option Parcel). KeepsOn (record { ports = set; parcel = record { event = parcel.event; finalizers = less.left ++ copy ∷ [] } } ∷ rest) (and_left_on set o rest)) (sym less.now)
    (on_before set parcel.event less.left copy rest))
