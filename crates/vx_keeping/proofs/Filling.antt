-- Each group has a copy, since each parcel that came has one.
use Rattle.std.proofs.Common.{◌≡◌, ℕ, ◌<◌, Bool, true, false, cond, ◌==◌, ◌&&◌, List, [], ◌∷◌, ◌++◌, length, map, reverse, refl, sym, ap, ◌∙◌, subst, arith}
use Rattle.std.specs.Prelude.{◌≢◌, filter}
use Rattle.std.specs.List.{flat_map}
use Rattle.std.proofs.lemmas.Bool.Decides.{nat_tests}
use Rattle.vx_value.specs.declared.event.Event.{Event}
use Rattle.vx_ledger.specs.Copies.{Copy}
use Rattle.vx_transform.specs.declared.output.Output.{Output}
use Rattle.vx_condition.specs.Steps.{Step, comes, ticks, ends}
use Rattle.vx_condition.specs.Picking.{Key, same_key}
use Rattle.vx_condition.specs.Reducing.{Settings, Arrival, arrivals, group_key, before_it, is_old, is_due, held_of, holds_some, period_start, led_by, groups, unless_empty, put_out}
use Rattle.vx_places.specs.Numbers.{parcels_out, EachFilled}
use Rattle.vx_reduce.specs.Groups.{copies_held}
use Rattle.vx_reduce.specs.Inputs.{Input, steps_of, copies_at, group_copies, group_with, output_with, outputs_at, outputs_over}
use Rattle.vx_reduce.proofs.HeldLaws.{arrival_at, AreBelow, held_below}
use Rattle.vx_reduce.proofs.GroupLists.{length-steps}
use Rattle.vx_keeping.proofs.Inputs.{reverse_behind}

-- a parcel that comes has a copy
abbrev pub IsFilled : Step → List Copy → Type 0
IsFilled (comes event now) copies = copies ≢ []
IsFilled (ticks now) copies = Unit {0}
IsFilled ends copies = Unit {0}

-- so it is of each of some inputs
abbrev pub AllFilled : List Input → Type 0
AllFilled [] = Unit {0}
AllFilled (x ∷ xs) = IsFilled x.step x.copies × AllFilled xs

-- the parcel of each of some events has a copy
abbrev pub HaveCopies : List Input → List Arrival → Type 0
HaveCopies given [] = Unit {0}
HaveCopies given (a ∷ us) = (copies_at given a.place ≢ []) × HaveCopies given us

-- some groups have events, whose parcels have copies
abbrev pub EachHas : List Input → List (List Arrival) → Type 0
EachHas given [] = Unit {0}
EachHas given (g ∷ gs) = ((g ≢ []) × HaveCopies given g) × EachHas given gs

have_append : (given : List Input) (us bs : List Arrival) → HaveCopies given us → HaveCopies given bs → HaveCopies given (us ++ bs)
have_append given [] bs h k = k
have_append given (a ∷ us) bs h k = (h.0, have_append given us bs h.1 k)

each_append : (given : List Input) (gs hs : List (List Arrival)) → EachHas given gs → EachHas given hs → EachHas given (gs ++ hs)
each_append given [] hs h k = k
each_append given (g ∷ gs) hs h k = (h.0, each_append given gs hs h.1 k)

-- an input more
older : (x : Input) (before : List Input) (place : ℕ) → place < length before → copies_at before place ≢ [] → copies_at (x ∷ before) place ≢ []
older x before place l some none =
    let other : (length before == place) ≡ false = grind (arith, nat_tests) in
    some (ap (λ (b : Bool). cond b x.copies (copies_at before place)) (sym other) ∙ none)

have_next : (x : Input) (before : List Input) (us : List Arrival) → AreBelow (length before) us → HaveCopies before us → HaveCopies (x ∷ before) us
have_next x before [] b h = tt
have_next x before (a ∷ us) b h = (older x before a.place b.0 h.0, have_next x before us b.1 h.1)

-- that which comes
module _ (x : Input) (before : List Input) where
  last_place : copies_at (x ∷ before) (length (steps_of before)) ≡ x.copies
  last_place =
      let same = length-steps before in
      let here : (length before == length (steps_of before)) ≡ true = grind (arith, nat_tests, same) in
      ap (λ (b : Bool). cond b x.copies (copies_at before (length (steps_of before)))) here

  last_has : (e : Event) (now : ℕ) → x.copies ≢ [] → HaveCopies (x ∷ before) (arrival_at e now (steps_of before) ∷ [])
  last_has e now some = (λ none. some (sym last_place ∙ none), tt)

  before_have : (s : Settings) (k : Key) → HaveCopies before (held_of s (steps_of before) k) → HaveCopies (x ∷ before) (held_of s (steps_of before) k)
  before_have s k h =
      have_next x before (held_of s (steps_of before) k) (subst (λ n. AreBelow n (held_of s (steps_of before) k)) (length-steps before) (held_below s (steps_of before) k)) h

  step_have : (s : Settings) (k : Key) (step : Step) → IsFilled step x.copies → HaveCopies before (held_of s (steps_of before) k) → HaveCopies (x ∷ before) (held_of s (step ∷ steps_of before) k)
  step_have s k (comes e now) some h = by_key (same_key (group_key s e) k) (s.ends_when e) (s.starts_when e) (before_have s k h)
    where
      by_key : (b c d : Bool) → HaveCopies (x ∷ before) (held_of s (steps_of before) k) →
          HaveCopies (x ∷ before) (cond b (cond c [] (cond d [] (held_of s (steps_of before) k) ++ arrival_at e now (steps_of before) ∷ [])) (held_of s (steps_of before) k))
      by_key true true d h = tt
      by_key true false true h = last_has e now some
      by_key true false false h = have_append (x ∷ before) (held_of s (steps_of before) k) (arrival_at e now (steps_of before) ∷ []) h (last_has e now some)
      by_key false c d h = h
  step_have s k (ticks now) some h =
      by_check (is_due s (holds_some s (steps_of before)) (period_start s (steps_of before)) now && is_old s now (held_of s (steps_of before) k)) (before_have s k h)
    where
      by_check : (b : Bool) → HaveCopies (x ∷ before) (held_of s (steps_of before) k) → HaveCopies (x ∷ before) (cond b [] (held_of s (steps_of before) k))
      by_check true h = tt
      by_check false h = h
  step_have s k ends some h = tt

pub held_have : (s : Settings) (given : List Input) (k : Key) → AllFilled given → HaveCopies given (held_of s (steps_of given) k)
held_have s [] k filled = tt
held_have s (x ∷ before) k filled = step_have x before s k x.step filled.0 (held_have s before k filled.1)

-- GROUPS
led_has : (given : List Input) (a : Arrival) (l : List Arrival) → HaveCopies given l → EachHas given (led_by a l)
led_has given a [] h = tt
led_has given a (first ∷ rest) h = go (first.place == a.place)
  where
    go : (b : Bool) → EachHas given (cond b ((first ∷ rest) ∷ []) [])
    go true = ((λ none. cc, h), tt)
    go false = tt

all_led : (s : Settings) (given : List Input) (held : Key → List Arrival) (us : List Arrival) → ((k : Key) → HaveCopies given (held k)) → EachHas given (flat_map (λ (a : Arrival). led_by a (held (group_key s a.event))) us)
all_led s given held [] h = tt
all_led s given held (a ∷ us) h =
    each_append given (led_by a (held (group_key s a.event))) (flat_map (λ (a : Arrival). led_by a (held (group_key s a.event))) us)
    (led_has given a (held (group_key s a.event)) (h (group_key s a.event))) (all_led s given held us h)

pub groups_have : (s : Settings) (given : List Input) → AllFilled given → EachHas given (groups s (steps_of given))
groups_have s given filled = all_led s given (held_of s (steps_of given)) (arrivals (steps_of given)) (λ k. held_have s given k filled)

-- a group that holds nothing isn't there
copies_some : (given : List Input) (g : List Arrival) → g ≢ [] → HaveCopies given g → group_copies given g ≢ []
copies_some given [] some h = absurd (some refl)
copies_some given (a ∷ us) some h = go (copies_at given a.place) h.0
  where
    go : (cs : List Copy) → cs ≢ [] → (cs ++ group_copies given us) ≢ []
    go [] full none = full refl
    go (c ∷ cs) full none = cc

front_none : {X : Type 0} (xs ys : List X) → xs ++ ys ≡ [] → xs ≡ []
front_none [] ys none = refl
front_none (x ∷ xs) ys none = absurd cc

pub no_groups : (s : Settings) (given : List Input) (gs : List (List Arrival)) → EachHas given gs → copies_held (map (group_with s given) gs) ≡ [] → map (group_with s given) gs ≡ []
no_groups s given [] h none = refl
no_groups s given (g ∷ gs) h none = absurd (copies_some given g h.0.0 h.0.1 (front_none (group_copies given g) (copies_held (map (group_with s given) gs)) none))

-- OUTPUTS
filter_has : (p : List Arrival → Bool) (given : List Input) (gs : List (List Arrival)) → EachHas given gs → EachHas given (filter p gs)
filter_has p given [] h = tt
filter_has p given (g ∷ gs) h = by_test (p g) (filter_has p given gs h.1)
  where
    by_test : (b : Bool) → EachHas given (filter p gs) → EachHas given (cond b (g ∷ filter p gs) (filter p gs))
    by_test true f = (h.0, f)
    by_test false f = f

groups_next : (x : Input) (before : List Input) (s : Settings) → AllFilled before → EachHas (x ∷ before) (groups s (steps_of before))
groups_next x before s filled = all_led s (x ∷ before) (held_of s (steps_of before)) (arrivals (steps_of before)) (λ k. before_have x before s k (held_have s before k filled))

pub put_have : (s : Settings) (x : Input) (before : List Input) (step : Step) → IsFilled step x.copies → AllFilled before → EachHas (x ∷ before) (put_out s (steps_of before) step)
put_have s x before (comes e now) some filled = by_earlier (held_of s (steps_of before) (group_key s e)) (before_have x before s (group_key s e) (held_have s before (group_key s e) filled))
  where
    first : (l : List Arrival) → HaveCopies (x ∷ before) l → (b : Bool) → EachHas (x ∷ before) (cond b (unless_empty l) [])
    first [] h true = tt
    first (a ∷ l) h true = ((λ none. cc, h), tt)
    first l h false = tt

    not_empty : (l : List Arrival) (a : Arrival) → (l ++ a ∷ []) ≢ []
    not_empty [] a none = cc
    not_empty (b ∷ l) a none = cc

    last : (l : List Arrival) → HaveCopies (x ∷ before) l → (b c : Bool) → EachHas (x ∷ before) (cond b ((cond c [] l ++ arrival_at e now (steps_of before) ∷ []) ∷ []) [])
    last l h true true = ((λ none. cc, last_has x before e now some), tt)
    last l h true false = ((not_empty l (arrival_at e now (steps_of before)), have_append (x ∷ before) l (arrival_at e now (steps_of before) ∷ []) h (last_has x before e now some)), tt)
    last l h false c = tt

    by_earlier : (l : List Arrival) → HaveCopies (x ∷ before) l →
        EachHas (x ∷ before) (cond (s.starts_when e) (unless_empty l) [] ++ cond (s.ends_when e) ((before_it s e l ++ arrival_at e now (steps_of before) ∷ []) ∷ []) [])
    by_earlier l h =
        each_append (x ∷ before) (cond (s.starts_when e) (unless_empty l) []) (cond (s.ends_when e) ((before_it s e l ++ arrival_at e now (steps_of before) ∷ []) ∷ []) [])
        (first l h (s.starts_when e)) (last l h (s.ends_when e) (s.starts_when e))
put_have s x before (ticks now) some filled = by_check (is_due s (holds_some s (steps_of before)) (period_start s (steps_of before)) now)
  where
    by_check : (b : Bool) → EachHas (x ∷ before) (cond b (filter (is_old s now) (groups s (steps_of before))) [])
    by_check true = filter_has (is_old s now) (x ∷ before) (groups s (steps_of before)) (groups_next x before s filled)
    by_check false = tt
put_have s x before ends some filled = groups_next x before s filled

filled_append : (xs ys : List Output) → EachFilled (parcels_out xs) → EachFilled (parcels_out ys) → EachFilled (parcels_out (xs ++ ys))
filled_append [] ys h k = k
filled_append (x ∷ xs) ys h k = (h.0, filled_append xs ys h.1 k)

outputs_filled : (s : Settings) (given : List Input) (gs : List (List Arrival)) → EachHas given gs → EachFilled (parcels_out (map (output_with s given) gs))
outputs_filled s given [] h = tt
outputs_filled s given (g ∷ gs) h = (copies_some given g h.0.0 h.0.1, outputs_filled s given gs h.1)

behind_filled : (xs ys : List Input) → AllFilled (xs ++ ys) → AllFilled ys
behind_filled [] ys h = h
behind_filled (x ∷ xs) ys h = behind_filled xs ys h.1

-- each output has a copy
pub over_filled : (s : Settings) (before given : List Input) → AllFilled (reverse given ++ before) → EachFilled (parcels_out (outputs_over s before given))
over_filled s before [] filled = tt
over_filled s before (x ∷ rest) filled =
    let all : AllFilled (reverse rest ++ x ∷ before) = subst AllFilled (reverse_behind x rest before) filled in
    let now : AllFilled (x ∷ before) = behind_filled (reverse rest) (x ∷ before) all in
    filled_append (outputs_at s before x) (outputs_over s (x ∷ before) rest) (outputs_filled s (x ∷ before) (put_out s (steps_of before) x.step) (put_have s x before x.step now.0 now.1)) (over_filled s (x ∷ before) rest all)
