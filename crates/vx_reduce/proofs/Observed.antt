-- What reduce puts out over several calls, as a record tells it: in one list, with the numbers of copies.
use Rattle.std.proofs.Common.{◌≡◌, ℕ, suc, Bool, true, false, cond, ◌==◌, List, [], ◌∷◌, ◌++◌, length, map, reverse, arith, refl, sym, ◌∙◌, ap, ap₂, subst, append_assoc, append-nil}
use Rattle.std.specs.Prelude.{filter}
use Rattle.std.proofs.lemmas.List.{map-append, reverse-append}
use Rattle.vx_value.specs.declared.event.Event.{Event}
use Rattle.vx_ledger.specs.Copies.{Copy, joined, numbers_of}
use Rattle.vx_transform.specs.declared.output.Output.{Output}
use Rattle.vx_condition.specs.Steps.{Step, comes, ticks, ends}
use Rattle.vx_condition.specs.Reducing.{Settings, Arrival, arrivals, group_key, group_event, before_it, is_old, is_due, held_of, holds_some, period_start, groups, unless_empty, put_out}
use Rattle.vx_reduce.specs.Inputs.{Input, steps_of, copies_at, group_copies, output_with, outputs_at, outputs_over}
use Rattle.vx_reduce.proofs.HeldLaws.{arrival_at, AreBelow, below_next, below_append, held_below}
use Rattle.vx_reduce.proofs.GroupLists.{GroupsBelow, outputs_kept, led_below, length-steps}

reverse_behind : {X : Type 0} (x : X) (xs ys : List X) → reverse (x ∷ xs) ++ ys ≡ reverse xs ++ x ∷ ys
reverse_behind x xs ys = ap (λ l. l ++ ys) (reverse-append (x ∷ []) xs) ∙ append_assoc (reverse xs) (x ∷ []) ys

-- one input more
pub over_more : (s : Settings) (before given : List Input) (x : Input) → outputs_over s before (given ++ x ∷ []) ≡ outputs_over s before given ++ outputs_at s (reverse given ++ before) x
over_more s before [] x = append-nil (outputs_at s before x)
over_more s before (y ∷ given) x =
    ap (λ os. outputs_at s before y ++ os) (over_more s (y ∷ before) given x)
    ∙ sym (append_assoc (outputs_at s before y) (outputs_over s (y ∷ before) given) (outputs_at s (reverse given ++ y ∷ before) x))
    ∙ ap (λ l. (outputs_at s before y ++ outputs_over s (y ∷ before) given) ++ outputs_at s l x) (sym (reverse_behind y given before))

-- ---- the places of what is put out
groups_next : (n : ℕ) (gs : List (List Arrival)) → GroupsBelow n gs → GroupsBelow (suc n) gs
groups_next n [] b = tt
groups_next n (g ∷ gs) b = (below_next n g b.0, groups_next n gs b.1)

groups_append : (n : ℕ) (gs hs : List (List Arrival)) → GroupsBelow n gs → GroupsBelow n hs → GroupsBelow n (gs ++ hs)
groups_append n [] hs b c = c
groups_append n (g ∷ gs) hs b c = (b.0, groups_append n gs hs b.1 c)

groups_filter : (p : List Arrival → Bool) (n : ℕ) (gs : List (List Arrival)) → GroupsBelow n gs → GroupsBelow n (filter p gs)
groups_filter p n [] b = tt
groups_filter p n (g ∷ gs) b = by_test (p g) (groups_filter p n gs b.1)
  where
    by_test : (c : Bool) → GroupsBelow n (filter p gs) → GroupsBelow n (cond c (g ∷ filter p gs) (filter p gs))
    by_test true f = (b.0, f)
    by_test false f = f

unless_below : (n : ℕ) (l : List Arrival) → AreBelow n l → GroupsBelow n (unless_empty l)
unless_below n [] b = tt
unless_below n (a ∷ l) b = (b, tt)

groups_below : (s : Settings) (before : List Step) → GroupsBelow (suc (length before)) (groups s before)
groups_below s before = groups_next (length before) (groups s before) (led_below s (held_of s before) (length before) (arrivals before) (held_below s before))

put_below : (s : Settings) (before : List Step) (step : Step) → GroupsBelow (suc (length before)) (put_out s before step)
put_below s before (comes e now) = by_earlier (held_of s before (group_key s e)) (below_next (length before) (held_of s before (group_key s e)) (held_below s before (group_key s e)))
  where
    first : (l : List Arrival) → AreBelow (suc (length before)) l → (b : Bool) → GroupsBelow (suc (length before)) (cond b (unless_empty l) [])
    first l h true = unless_below (suc (length before)) l h
    first l h false = tt

    last : (l : List Arrival) → AreBelow (suc (length before)) l → (b c : Bool) → GroupsBelow (suc (length before)) (cond b ((cond c [] l ++ arrival_at e now before ∷ []) ∷ []) [])
    last l h true true = ((omega arith, tt), tt)
    last l h true false = (below_append (suc (length before)) l (arrival_at e now before ∷ []) h (omega arith, tt), tt)
    last l h false c = tt

    by_earlier : (l : List Arrival) → AreBelow (suc (length before)) l → GroupsBelow (suc (length before)) (cond (s.starts_when e) (unless_empty l) [] ++ cond (s.ends_when e) ((before_it s e l ++ arrival_at e now before ∷ []) ∷ []) [])
    by_earlier l h =
        groups_append (suc (length before)) (cond (s.starts_when e) (unless_empty l) []) (cond (s.ends_when e) ((before_it s e l ++ arrival_at e now before ∷ []) ∷ []) []) (first l h (s.starts_when e)) (last l h (s.ends_when e) (s.starts_when e))
put_below s before (ticks now) = by_check (is_due s (holds_some s before) (period_start s before) now)
  where
    by_check : (b : Bool) → GroupsBelow (suc (length before)) (cond b (filter (is_old s now) (groups s before)) [])
    by_check true = groups_filter (is_old s now) (suc (length before)) (groups s before) (groups_below s before)
    by_check false = tt
put_below s before ends = groups_below s before

-- what was put out stays so, whatever came then
more_below : (more given : List Input) (gs : List (List Arrival)) → GroupsBelow (length given) gs → GroupsBelow (length (more ++ given)) gs
more_below [] given gs b = b
more_below (y ∷ more) given gs b = groups_next (length (more ++ given)) gs (more_below more given gs b)

outputs_stay : (s : Settings) (more given : List Input) (gs : List (List Arrival)) → GroupsBelow (length given) gs → map (output_with s (more ++ given)) gs ≡ map (output_with s given) gs
outputs_stay s [] given gs b = refl
outputs_stay s (y ∷ more) given gs b = outputs_kept s y (more ++ given) gs (more_below more given gs b) ∙ outputs_stay s more given gs b

-- ---- as one list
-- rows: the groups that some steps put out, in order, after those before them
module _ (s : Settings) (rows : List Step → List Step → List (List Arrival)) (none : (before : List Step) → rows before [] ≡ []) (one : (before : List Step) (step : Step) (rest : List Step) → rows before (step ∷ rest) ≡ put_out s before step ++ rows (step ∷ before) rest) where
  pub over_rows : (before given : List Input) → outputs_over s before given ≡ map (output_with s (reverse given ++ before)) (rows (steps_of before) (steps_of given))
  over_rows before [] = ap (λ gs. map (output_with s before) gs) (sym (none (steps_of before)))
  over_rows before (x ∷ rest) =
      ap₂ (λ os ps. os ++ ps) (sym (outputs_stay s (reverse rest) (x ∷ before) (put_out s (steps_of before) x.step) (placed (length-steps before)))) (over_rows (x ∷ before) rest)
      ∙ sym (map-append (output_with s (reverse rest ++ x ∷ before)) (put_out s (steps_of before) x.step) (rows (x.step ∷ steps_of before) (steps_of rest)))
      ∙ ap₂ (λ l gs. map (output_with s l) gs) (sym (reverse_behind x rest before)) (sym (one (steps_of before) x.step (steps_of rest)))
    where
      placed : length (steps_of before) ≡ length before → GroupsBelow (suc (length before)) (put_out s (steps_of before) x.step)
      placed e = subst (λ n. GroupsBelow (suc n) (put_out s (steps_of before) x.step)) e (put_below s (steps_of before) x.step)

  -- numbers: the numbers of the copies of the input at a place; all: some lists in a row
  module _ (numbers : List Input → ℕ → List ℕ) (no_input : (place : ℕ) → numbers [] place ≡ []) (an_input : (x : Input) (before : List Input) (place : ℕ) → numbers (x ∷ before) place ≡ cond (length before == place) (numbers_of x.copies) (numbers before place))
      (all : List (List ℕ) → List ℕ) (no_list : all [] ≡ []) (a_list : (ns : List ℕ) (rest : List (List ℕ)) → all (ns ∷ rest) ≡ ns ++ all rest) where
    numbers_at : (given : List Input) (place : ℕ) → numbers_of (copies_at given place) ≡ numbers given place
    numbers_at [] place = sym (no_input place)
    numbers_at (x ∷ given) place = by_place (length given == place) (numbers_at given place) ∙ sym (an_input x given place)
      where
        by_place : (b : Bool) → numbers_of (copies_at given place) ≡ numbers given place → numbers_of (cond b x.copies (copies_at given place)) ≡ cond b (numbers_of x.copies) (numbers given place)
        by_place true h = refl
        by_place false h = h

    numbers-append : (cs ds : List Copy) → numbers_of (cs ++ ds) ≡ numbers_of cs ++ numbers_of ds
    numbers-append [] ds = refl
    numbers-append (c ∷ cs) ds = ap (λ ns. c.number ∷ ns) (numbers-append cs ds)

    group_numbers : (given : List Input) (group : List Arrival) → numbers_of (group_copies given group) ≡ all (map (λ (a : Arrival). numbers given a.place) group)
    group_numbers given [] = sym no_list
    group_numbers given (a ∷ group) =
        numbers-append (copies_at given a.place) (group_copies given group) ∙ ap₂ (λ ms ns. ms ++ ns) (numbers_at given a.place) (group_numbers given group)
        ∙ sym (a_list (numbers given a.place) (map (λ (b : Arrival). numbers given b.place) group))

    -- told: what a record has of an output, by its ports, the numbers of its copies and its event
    module _ {X : Type 0} (observed : ℕ → List ℕ → Event → X) where
      observed_groups : (given : List Input) (gs : List (List Arrival)) → map (λ (o : Output). observed o.ports (numbers_of o.parcel.finalizers) o.parcel.event) (map (output_with s given) gs)
          ≡ map (λ group. observed 1 (all (map (λ (a : Arrival). numbers given a.place) group)) (group_event s group)) gs
      observed_groups given [] = refl
      observed_groups given (g ∷ gs) = ap₂ (λ o os. o ∷ os) (ap (λ ns. observed 1 ns (group_event s g)) (group_numbers given g)) (observed_groups given gs)

      pub over_observed : (before given : List Input) → map (λ (o : Output). observed o.ports (numbers_of o.parcel.finalizers) o.parcel.event) (outputs_over s before given)
          ≡ map (λ group. observed 1 (all (map (λ (a : Arrival). numbers (reverse given ++ before) a.place) group)) (group_event s group)) (rows (steps_of before) (steps_of given))
      over_observed before given =
          ap (λ os. map (λ (o : Output). observed o.ports (numbers_of o.parcel.finalizers) o.parcel.event) os) (over_rows before given) ∙ observed_groups (reverse given ++ before) (rows (steps_of before) (steps_of given))
