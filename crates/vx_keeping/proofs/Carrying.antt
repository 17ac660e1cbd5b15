-- Each parcel that a record gives a transform has a copy.
use Rattle.std.proofs.Common.{◌≡◌, ℕ, Bool, true, false, ◌&&◌, List, [], ◌∷◌, ◌++◌, map, reverse, refl, sym, subst}
use Rattle.std.specs.Prelude.{◌==◌, ◌≢◌, not, filter, if◌then◌else◌}
use Rattle.std.proofs.lemmas.List.{reverse-append}
use Rattle.vx_value.specs.Texts.{is_empty}
use Rattle.vx_ledger.specs.Copies.{Copy, numbers_of}
use Rattle.vx_ledger.specs.declared.parcel.Parcel.{Parcel}
use Rattle.vx_condition.specs.Steps.{Step, comes, ticks, ends}
use Rattle.vx_record.specs.declared.entry.Entry.TheVariants.{Take, Tick, Answer}
use Rattle.vx_record.specs.Records.{Record}
use Rattle.vx_record.specs.Turns.{lease_now}
use Rattle.vx_record.specs.Parcels.{parcel_event}
use Rattle.vx_record.specs.Inputs.{Input as NotedInput, unanswered, flush, inputs, answered, or_flush, to_answer, is_tick}
use Rattle.vx_record.specs.Legal.{IsLegal}
use Rattle.vx_record.proofs.Answers.{inputs_parted}
use Rattle.vx_reduce.specs.Inputs.{Input}
use Rattle.vx_places.specs.Numbers.{EachFilled}
use Rattle.vx_keeping.specs.Keeping.{noted_input, noted_input_at, taken_in}
use Rattle.vx_keeping.proofs.Accounting.{take_filled}
use Rattle.vx_keeping.proofs.Filling.{IsFilled, AllFilled}
use Rattle.vx_keeping.proofs.Reporting.{observed_behind}

-- a parcel that comes has a copy
abbrev IsCarried : Step → List ℕ → Type 0
IsCarried (comes event now) copies = copies ≢ []
IsCarried (ticks now) copies = Unit {0}
IsCarried ends copies = Unit {0}

abbrev pub AllCarried : List NotedInput → Type 0
AllCarried [] = Unit {0}
AllCarried (x ∷ xs) = IsCarried x.step x.copies × AllCarried xs

carried_append : (xs ys : List NotedInput) → AllCarried xs → AllCarried ys → AllCarried (xs ++ ys)
carried_append [] ys a b = b
carried_append (x ∷ xs) ys a b = (a.0, carried_append xs ys a.1 b)

carried_parts : (xs ys : List NotedInput) → AllCarried (xs ++ ys) → AllCarried xs × AllCarried ys
carried_parts [] ys a = (tt, a)
carried_parts (x ∷ xs) ys a = let parts = carried_parts xs ys a.1 in ((a.0, parts.0), parts.1)

pub carried_reverse : (xs : List NotedInput) → AllCarried xs → AllCarried (reverse xs)
carried_reverse [] a = tt
carried_reverse (x ∷ xs) a = subst AllCarried (sym (reverse-append (x ∷ []) xs)) (carried_append (reverse xs) (x ∷ []) (carried_reverse xs a.1) (a.0, tt))

flush_carried : (xs : List NotedInput) → AllCarried xs → AllCarried (or_flush xs)
flush_carried [] a = (tt, tt)
flush_carried (x ∷ xs) a = a

-- ALL THAT IT WAS GIVEN
pub inputs_carried : (h : Record) (i : ℕ) → IsLegal h → AllCarried (inputs h i)
inputs_carried [] i legal = tt
inputs_carried (Take j s copies ∷ h) i legal = go (j == i) (inputs_carried h i legal.1)
  where
    go : (b : Bool) → AllCarried (inputs h i) → AllCarried (([] ++ (if b then record { step = comes (parcel_event h copies) (lease_now h i); copies = copies } ∷ [] else [])) ++ inputs h i)
    go true rest = (take_filled h j s copies legal, rest)
    go false rest = rest
inputs_carried (Tick j now ∷ h) i legal = go (j == i) (inputs_carried h i legal.1)
  where
    go : (b : Bool) → AllCarried (inputs h i) → AllCarried (([] ++ (if b then record { step = ticks now; copies = [] } ∷ [] else [])) ++ inputs h i)
    go true rest = (tt, rest)
    go false rest = rest
inputs_carried (Answer j outputs discarded kept ∷ h) i legal = go ((j == i) && is_empty (unanswered h i)) (inputs_carried h i legal.1)
  where
    go : (b : Bool) → AllCarried (inputs h i) → AllCarried (((if b then flush ∷ [] else []) ++ []) ++ inputs h i)
    go true rest = (tt, rest)
    go false rest = rest
inputs_carried (e ∷ h) i legal = inputs_carried h i legal.1

parts_carried : (h : Record) (i : ℕ) → IsLegal h → AllCarried (unanswered h i) × AllCarried (answered h i)
parts_carried h i legal = carried_parts (unanswered h i) (answered h i) (subst AllCarried (inputs_parted h i) (inputs_carried h i legal))

-- AS A REDUCE HAS IT
observed_filled : (step : Step) (copies : List Copy) → IsCarried step (numbers_of copies) → IsFilled step copies
observed_filled (comes event now) [] is = absurd (is refl)
observed_filled (comes event now) (c ∷ cs) is = λ none. cc
observed_filled (ticks now) copies is = tt
observed_filled ends copies is = tt

pub all_filled : (xs : List Input) → AllCarried (map noted_input xs) → AllFilled xs
all_filled [] a = tt
all_filled (x ∷ xs) a = (observed_filled x.step x.copies a.0, all_filled xs a.1)

-- what it has answered,
pub answered_filled : (h : Record) (i : ℕ) (earlier : List Input) → IsLegal h → map noted_input earlier ≡ answered h i → AllFilled earlier
answered_filled h i earlier legal same = all_filled earlier (subst AllCarried (sym same) (parts_carried h i legal).1)

-- and with it what it is to answer
pub to_answer_filled : (h : Record) (i : ℕ) (earlier more : List Input) → IsLegal h → map noted_input earlier ≡ answered h i → map noted_input more ≡ to_answer h i → AllFilled (reverse more ++ earlier)
to_answer_filled h i earlier more legal same next =
    let parts = parts_carried h i legal in
    let front : AllCarried (reverse (map noted_input more)) = carried_reverse (map noted_input more) (subst AllCarried (sym next) (flush_carried (reverse (unanswered h i)) (carried_reverse (unanswered h i) parts.0))) in
    let back : AllCarried (map noted_input earlier) = subst AllCarried (sym same) parts.1 in
    all_filled (reverse more ++ earlier) (subst AllCarried (sym (observed_behind more earlier)) (carried_append (reverse (map noted_input more)) (map noted_input earlier) front back))

-- the parcels that were taken
filter_carried : (p : NotedInput → Bool) (xs : List NotedInput) → AllCarried xs → AllCarried (filter p xs)
filter_carried p [] a = tt
filter_carried p (x ∷ xs) a = by_test (p x) (filter_carried p xs a.1)
  where
    by_test : (b : Bool) → AllCarried (filter p xs) → AllCarried (if b then x ∷ filter p xs else filter p xs)
    by_test true rest = (a.0, rest)
    by_test false rest = rest

parcels_filled : (now : ℕ) (ps : List Parcel) → AllCarried (map (noted_input_at now) ps) → EachFilled ps
parcels_filled now [] a = tt
parcels_filled now (p ∷ ps) a = (observed_filled (comes p.event now) p.finalizers a.0, parcels_filled now ps a.1)

pub taken_filled : (h : Record) (i now : ℕ) (ps : List Parcel) → IsLegal h → map (noted_input_at now) ps ≡ taken_in h i → EachFilled ps
taken_filled h i now ps legal same =
    parcels_filled now ps (subst AllCarried (sym same) (carried_reverse (filter (λ (x : NotedInput). not (is_tick x.step)) (unanswered h i)) (filter_carried (λ (x : NotedInput). not (is_tick x.step)) (unanswered h i) (parts_carried h i legal).0)))
