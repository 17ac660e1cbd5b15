-- What a reduce was given and puts out, as a record tells it.
use Rattle.std.proofs.Common.{◌≡◌, ℕ, cond, ◌==◌, List, [], ◌∷◌, ◌++◌, length, map, reverse, refl, sym, ap, ap₂, ◌∙◌}
use Rattle.std.proofs.lemmas.List.{length-map, map-append, reverse-append}
use Rattle.vx_value.specs.declared.event.Event.{Event}
use Rattle.vx_ledger.specs.Copies.{Copy, numbers_of}
use Rattle.vx_transform.specs.declared.output.Output.{Output}
use Rattle.vx_transform.specs.Shelves.{copies_put_out}
use Rattle.vx_condition.specs.Reducing.{Settings}
use Rattle.vx_record.specs.declared.output.Output.{Output as NotedOutput}
use Rattle.vx_record.specs.Copies.{joined}
use Rattle.vx_record.specs.Places.{put_out}
use Rattle.vx_record.specs.Inputs.{steps_of as observed_steps}
use Rattle.vx_record.specs.Transforms.{copies_at, group_output, groups_over, reduced}
use Rattle.vx_reduce.specs.Inputs.{Input, steps_of, outputs_over}
use Rattle.vx_reduce.proofs.Observed.{over_observed}
use Rattle.vx_keeping.specs.Keeping.{noted_input}
use Rattle.vx_keeping.specs.Answers.{notes_of}
use Rattle.vx_places.specs.Numbers.{AreNoted}

-- LISTS
pub map_reverse : {X Y : Type 0} (f : X → Y) (xs : List X) → map f (reverse xs) ≡ reverse (map f xs)
map_reverse f [] = refl
map_reverse f (x ∷ xs) =
    ap (map f) (reverse-append (x ∷ []) xs) ∙ map-append f (reverse xs) (x ∷ []) ∙ ap (λ l. l ++ f x ∷ []) (map_reverse f xs) ∙ sym (reverse-append (f x ∷ []) (map f xs))

pub observed_behind : (xs ys : List Input) → map noted_input (reverse xs ++ ys) ≡ reverse (map noted_input xs) ++ map noted_input ys
observed_behind xs ys = map-append noted_input (reverse xs) ys ∙ ap (λ l. l ++ map noted_input ys) (map_reverse noted_input xs)

pub steps_observed : (xs : List Input) → observed_steps (map noted_input xs) ≡ steps_of xs
steps_observed [] = refl
steps_observed (x ∷ xs) = ap (λ l. x.step ∷ l) (steps_observed xs)

pub numbers-append : (cs ds : List Copy) → numbers_of (cs ++ ds) ≡ numbers_of cs ++ numbers_of ds
numbers-append [] ds = refl
numbers-append (c ∷ cs) ds = ap (λ ns. c.number ∷ ns) (numbers-append cs ds)

-- the copies of some outputs, by their numbers
pub put_out_notes : (outputs : List Output) → put_out (notes_of outputs) ≡ numbers_of (copies_put_out outputs)
put_out_notes [] = refl
put_out_notes (o ∷ outputs) =
    ap (λ ns. numbers_of o.parcel.finalizers ++ ns) (put_out_notes outputs) ∙ sym (numbers-append o.parcel.finalizers (copies_put_out outputs))

-- each as its entry has it
pub are_noted : (outputs : List Output) → AreNoted outputs (notes_of outputs)
are_noted [] = tt
are_noted (o ∷ outputs) = (refl, refl, are_noted outputs)

-- OUTPUTS
-- the numbers of the input that has so many before it
numbers : List Input → ℕ → List ℕ
numbers given place = copies_at (map noted_input given) place

note : ℕ → List ℕ → Event → NotedOutput
note ports copies event = record { ports = ports; copies = copies; event = event }

an_input : (x : Input) (before : List Input) (place : ℕ) → numbers (x ∷ before) place ≡ cond (length before == place) (numbers_of x.copies) (numbers before place)
unfolding numbers
an_input x before place = ap (λ n. cond (n == place) (numbers_of x.copies) (copies_at (map noted_input before) place)) (length-map before noted_input)

no_input : (place : ℕ) → numbers [] place ≡ []
unfolding numbers
no_input place = refl

-- what some inputs put out is what the record's rule says
pub notes_reduced : (s : Settings) (before given : List Input) → notes_of (outputs_over s before given) ≡ reduced s (map noted_input before) (map noted_input given)
unfolding numbers note
notes_reduced s before given =
    over_observed s (groups_over s) (λ b. refl) (λ b step rest. refl) numbers no_input an_input joined refl (λ ns rest. refl) note before given
    ∙ ap (λ all. map (group_output s all) (groups_over s (steps_of before) (steps_of given))) (observed_behind given before)
    ∙ ap₂ (λ b g. map (group_output s (reverse (map noted_input given) ++ map noted_input before)) (groups_over s b g)) (sym (steps_observed before)) (sym (steps_observed given))
