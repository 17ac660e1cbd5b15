-- What an instance ever put out, and what one ever took, as events in order.
use Rattle.std.proofs.Common.{◌≡◌, ℕ, ◌+◌, ◌<◌, ◌≤◌, Bool, true, List, [], ◌∷◌, ◌++◌, map, length, refl, sym, ap, subst, ◌∙◌, arith, Option, Some, None}
use Rattle.std.specs.Prelude.{◌-◌, ◌==◌, if◌then◌else◌, nat_lt, slice_index_or}
use Rattle.std.proofs.lemmas.Bool.Decides.{nat_tests}
use Rattle.std.proofs.lemmas.Bool.{eq-eqb}
use Rattle.std.proofs.lemmas.List.{append_assoc, length-append}
use Rattle.vx_value.specs.declared.event.Event.{Event}
use Rattle.vx_record.specs.declared.entry.Entry.TheVariants.{Born, Take, Answer}
use Rattle.vx_record.specs.declared.output.Output.{Output}
use Rattle.vx_record.specs.Records.{Record}
use Rattle.vx_record.specs.Copies.{count, counting, next_copy}
use Rattle.vx_record.specs.Places.{put_out}
use Rattle.vx_record.specs.Places.Place.{Held}
use Rattle.vx_record.specs.Parcels.{event_of, parcel_event, no_event, output_with}
use Rattle.vx_record.specs.Lists.{and_rest}
use Rattle.vx_record.specs.Moving.{singles, parcels_of}
use Rattle.vx_record.specs.Legal.{IsLegal}
use Rattle.vx_record.proofs.OnePlace.{conserved}
use Rattle.vx_record.proofs.Changes.{stands_once}
use Rattle.vx_record.proofs.Events.{output_is}

-- the events of the outputs that have copies
abbrev pub output_events : List Output → List Event
output_events [] = []
output_events (output ∷ rest) = elim output.copies [ [] ↦ output_events rest | c ∷ cs ↦ output.event ∷ output_events rest ]

-- the events that an instance ever put out, as births or as answers
abbrev pub put_events : Record → ℕ → List Event
put_events [] i = []
put_events (Born j b place copies events waits stream end ∷ h) i = put_events h i ++ (if j == i then events else [])
put_events (Answer j outputs discarded kept ∷ h) i = put_events h i ++ (if j == i then output_events outputs else [])
put_events (e ∷ h) i = put_events h i

-- the events that an instance ever took
abbrev pub took_events : Record → ℕ → List Event
took_events [] i = []
took_events (Take j s copies ∷ h) i = took_events h i ++ (if j == i then parcel_event h copies ∷ [] else [])
took_events (e ∷ h) i = took_events h i

-- BIRTHS
-- an element behind others
behind : (before : List Event) (e : Event) (rest : List Event) (n : ℕ) → n ≡ length before → slice_index_or (before ++ e ∷ rest) n no_event ≡ e
behind [] e rest n is = ap (λ k. slice_index_or (e ∷ rest) k no_event) is
behind (b ∷ before) e rest n is =
    ap (λ k. slice_index_or (b ∷ (before ++ e ∷ rest)) k no_event) is ∙ behind before e rest (length before) refl

-- where a test of numbers fails
when_ge : {A : Type 0} (m n : ℕ) (x y : A) → n ≤ m → (if nat_lt m n then x else y) ≡ y
when_ge m n x y l = grind (arith, nat_tests)

-- the copies of a batch have its events, one after the other
born_from : (h : Record) (i b place : ℕ) (copies : List ℕ) (events : List Event) (waits : Bool) (stream end : ℕ) (before rest : List Event) (from : ℕ) →
    events ≡ before ++ rest → from ≡ next_copy h + length before →
    map (parcel_event (Born i b place copies events waits stream end ∷ h)) (singles (counting from (length rest))) ≡ rest
born_from h i b place copies events waits stream end before [] from are at = refl
born_from h i b place copies events waits stream end before (e ∷ rest) from are at =
    ap (λ (x : Event). x ∷ map (parcel_event k) (singles (counting (from + 1) (length rest)))) first
    ∙ ap (λ (es : List Event). e ∷ es)
    (born_from h i b place copies events waits stream end (before ++ e ∷ []) rest (from + 1)
    (are ∙ sym (append_assoc before (e ∷ []) rest))
    (let more = length-append before (e ∷ []) in omega (arith, at, more)))
  where
    k : Record
    k = Born i b place copies events waits stream end ∷ h

    first : event_of k from ≡ e
    first =
        when_ge from (next_copy h) (event_of h from) (slice_index_or events (from - next_copy h) no_event) (omega (arith, at))
        ∙ ap (λ (es : List Event). slice_index_or es (from - next_copy h) no_event) are
        ∙ behind before e rest (from - next_copy h) (omega (arith, at))

-- a batch has the events of its birth
pub born_events : (h : Record) (i b place : ℕ) (copies : List ℕ) (events : List Event) (waits : Bool) (stream end : ℕ) →
    copies ≡ counting (next_copy h) (length copies) → length copies ≡ length events →
    map (parcel_event (Born i b place copies events waits stream end ∷ h)) (singles copies) ≡ events
born_events h i b place copies events waits stream end are many =
    ap (λ (cs : List ℕ). map (parcel_event (Born i b place copies events waits stream end ∷ h)) (singles cs))
    (are ∙ ap (counting (next_copy h)) many)
    ∙ born_from h i b place copies events waits stream end [] events (next_copy h) refl (omega arith)

-- ANSWERS
-- what an Answer puts out has the events that it says
answer_from : (h : Record) (i : ℕ) (discarded kept : List ℕ) (all before made : List Output) → all ≡ before ++ made →
    ((c : ℕ) → count c (put_out all) ≤ 1) → map (parcel_event (Answer i all discarded kept ∷ h)) (parcels_of made) ≡ output_events made
answer_from h i discarded kept all before [] are once = refl
answer_from h i discarded kept all before (output ∷ rest) are once =
    go output.copies refl
    (answer_from h i discarded kept all (before ++ output ∷ []) rest (are ∙ sym (append_assoc before (output ∷ []) rest)) once)
  where
    k : Record
    k = Answer i all discarded kept ∷ h

    from : (c : ℕ) → 0 < count c output.copies → event_of k c ≡ output.event
    from c l =
        ap (λ (o : Option Output). elim o [ None ↦ event_of h c | Some output ↦ output.event ])
        (ap (λ (xs : List Output). output_with xs c) are
        ∙ output_is before output rest c (let few = ap (λ (xs : List Output). count c (put_out xs)) are in let o = once c in omega (arith, few, o)) l)

    go : (cs : List ℕ) → output.copies ≡ cs → map (parcel_event k) (parcels_of rest) ≡ output_events rest →
        map (parcel_event k) (and_rest cs (parcels_of rest)) ≡ elim cs [ [] ↦ output_events rest | c ∷ more ↦ output.event ∷ output_events rest ]
    go [] is ih = ih
    go (c ∷ more) is ih =
        let here : (c == c) ≡ true = eq-eqb c c refl in
        let some : 0 < count c (c ∷ more) = grind (arith, nat_tests, here) in
        ap (λ (x : Event). x ∷ map (parcel_event k) (parcels_of rest)) (from c (subst (λ (cs : List ℕ). 0 < count c cs) (sym is) some))
        ∙ ap (λ (es : List Event). output.event ∷ es) ih

-- an Answer puts out its outputs' events
pub answer_events : (h : Record) (i : ℕ) (made : List Output) (discarded kept : List ℕ) → IsLegal (Answer i made discarded kept ∷ h) →
    map (parcel_event (Answer i made discarded kept ∷ h)) (parcels_of made) ≡ output_events made
answer_events h i made discarded kept legal =
    answer_from h i discarded kept made [] made refl
    (λ c. let r = (conserved (Answer i made discarded kept ∷ h) legal).0 c in let o = stands_once h c (Held i) (conserved h legal.1) in omega (arith, r, o))
