-- What a judge that passes events puts out of what it is given.
use Rattle.std.proofs.Common.{◌≡◌, ℕ, Bool, true, false, List, [], ◌∷◌, ◌++◌, reverse, refl, sym, ap, subst, ◌∙◌}
use Rattle.std.specs.Prelude.{if◌then◌else◌}
use Rattle.std.proofs.lemmas.List.{append_assoc, append-nil, reverse-append, map-append}
use Rattle.vx_value.specs.declared.event.Event.{Event}
use Rattle.vx_condition.specs.Steps.{Test, Step, comes, ticks, ends, events_of, passed_after}
use Rattle.vx_record.specs.declared.output.Output.{Output}
use Rattle.vx_record.specs.Inputs.{Input, or_flush, steps_of}
use Rattle.vx_record.specs.Transforms.{passing, put_on, output_by, judged}
use Rattle.vx_plain_case.proofs.Flows.{output_events}

-- the parcel of an event that comes has a copy
abbrev pub IsFull : Step → List ℕ → Type 0
IsFull (comes e now) [] = ⊥
IsFull step copies = Unit {0}

-- and so has each of some inputs
abbrev pub AllFull : List Input → Type 0
AllFull [] = Unit {0}
AllFull (x ∷ xs) = IsFull x.step x.copies × AllFull xs

-- so it is of inputs in a row
pub full-append : (xs ys : List Input) → AllFull xs → AllFull ys → AllFull (xs ++ ys)
full-append [] ys a b = b
full-append (x ∷ xs) ys a b = (a.0, full-append xs ys a.1 b)

-- and the other way round
pub full-reverse : (xs : List Input) → AllFull xs → AllFull (reverse xs)
full-reverse [] a = tt
full-reverse (x ∷ xs) a =
    subst AllFull (sym (reverse-append (x ∷ []) xs)) (full-append (reverse xs) (x ∷ []) (full-reverse xs a.1) (a.0, tt))

-- and of the flush
pub full-flush : (xs : List Input) → AllFull xs → AllFull (or_flush xs)
full-flush [] a = (tt, tt)
full-flush (x ∷ xs) a = a

-- EVENTS
pub events-append : (xs ys : List Step) → events_of (xs ++ ys) ≡ events_of xs ++ events_of ys
events-append [] ys = refl
events-append (comes e now ∷ xs) ys = ap (λ es. e ∷ es) (events-append xs ys)
events-append (ticks now ∷ xs) ys = events-append xs ys
events-append (ends ∷ xs) ys = events-append xs ys

-- the events of outputs in a row
pub output_events-append : (xs ys : List Output) → output_events (xs ++ ys) ≡ output_events xs ++ output_events ys
output_events-append [] ys = refl
output_events-append (x ∷ xs) ys = go x.copies (output_events-append xs ys)
  where
    go : (cs : List ℕ) → output_events (xs ++ ys) ≡ output_events xs ++ output_events ys →
        elim cs [ [] ↦ output_events (xs ++ ys) | c ∷ more ↦ x.event ∷ output_events (xs ++ ys) ]
        ≡ elim cs [ [] ↦ output_events xs | c ∷ more ↦ x.event ∷ output_events xs ] ++ output_events ys
    go [] ih = ih
    go (c ∷ more) ih = ap (λ es. x.event ∷ es) ih

-- what passes of some events and then of more
pub passed-append : (passes : List Event → Test) (earlier xs ys : List Event) →
    passed_after earlier passes (xs ++ ys) ≡ passed_after earlier passes xs ++ passed_after (earlier ++ xs) passes ys
passed-append passes earlier [] ys = ap (λ es. passed_after es passes ys) (sym (append-nil earlier))
passed-append passes earlier (x ∷ xs) ys =
    let first = if passes earlier x then x ∷ [] else [] in
    ap (λ es. first ++ es) (passed-append passes (earlier ++ x ∷ []) xs ys)
    ∙ sym (append_assoc first (passed_after (earlier ++ x ∷ []) passes xs) (passed_after ((earlier ++ x ∷ []) ++ xs) passes ys))
    ∙ ap (λ es. (first ++ passed_after (earlier ++ x ∷ []) passes xs) ++ passed_after es passes ys) (append_assoc earlier (x ∷ []) xs)

-- WHAT IS PUT OUT
step_passed : (passes : List Event → Test) (earlier : List Event) (step : Step) (copies : List ℕ) → IsFull step copies →
    output_events (output_by (passing passes) earlier step copies) ≡ passed_after earlier passes (events_of (step ∷ []))
step_passed passes earlier (comes e now) [] full = absurd full
step_passed passes earlier (comes e now) (c ∷ cs) full = go (passes earlier e)
  where
    go : (b : Bool) → output_events (put_on (if b then 0 ∷ [] else []) e (c ∷ cs)) ≡ (if b then e ∷ [] else []) ++ []
    go true = refl
    go false = refl
step_passed passes earlier (ticks now) copies full = refl
step_passed passes earlier ends copies full = refl

-- a judge that passes events puts out those that pass
pub judged_passed : (passes : List Event → Test) (earlier : List Event) (xs : List Input) → AllFull xs →
    output_events (judged (passing passes) earlier xs) ≡ passed_after earlier passes (events_of (steps_of xs))
judged_passed passes earlier [] full = refl
judged_passed passes earlier (x ∷ rest) full =
    output_events-append (output_by (passing passes) earlier x.step x.copies) (judged (passing passes) (earlier ++ events_of (x.step ∷ [])) rest)
    ∙ ap (λ es. es ++ output_events (judged (passing passes) (earlier ++ events_of (x.step ∷ [])) rest)) (step_passed passes earlier x.step x.copies full.0)
    ∙ ap (λ es. passed_after earlier passes (events_of (x.step ∷ [])) ++ es) (judged_passed passes (earlier ++ events_of (x.step ∷ [])) rest full.1)
    ∙ sym (passed-append passes earlier (events_of (x.step ∷ [])) (events_of (steps_of rest)))
    ∙ ap (λ es. passed_after earlier passes es) (sym (events-append (x.step ∷ []) (steps_of rest)))

-- REVERSED
-- the events of some inputs, the latest of which stands first
abbrev pub events_given : List Input → List Event
events_given given = events_of (reverse (steps_of given))

-- the events of inputs in a row: the latest stand first
pub given-append : (xs ys : List Input) → events_given (xs ++ ys) ≡ events_given ys ++ events_given xs
given-append xs ys =
    ap (λ (ss : List Step). events_of (reverse ss)) (map-append (λ (input : Input). input.step) xs ys)
    ∙ ap (λ (ss : List Step). events_of ss) (reverse-append (steps_of xs) (steps_of ys))
    ∙ events-append (reverse (steps_of ys)) (reverse (steps_of xs))

-- the same the other way round
pub given_in_order : (xs : List Input) → events_of (steps_of (reverse xs)) ≡ events_given xs
given_in_order [] = refl
given_in_order (x ∷ xs) =
    ap (λ (given : List Input). events_of (steps_of given)) (reverse-append (x ∷ []) xs)
    ∙ ap (λ (ss : List Step). events_of ss) (map-append (λ (input : Input). input.step) (reverse xs) (x ∷ []))
    ∙ events-append (steps_of (reverse xs)) (x.step ∷ [])
    ∙ ap (λ es. es ++ events_of (x.step ∷ [])) (given_in_order xs)
    ∙ sym (given-append (x ∷ []) xs)

-- the flush has no event
pub flush_none : (xs : List Input) → events_of (steps_of (or_flush xs)) ≡ events_of (steps_of xs)
flush_none [] = refl
flush_none (x ∷ xs) = refl
