-- Copies that came first in a parcel, among those that were taken since the last answer.
use Rattle.std.proofs.Common.{◌≡◌, ℕ, ◌+◌, ◌<◌, ◌≤◌, Bool, true, false, ◌||◌, not, List, [], ◌∷◌, ◌++◌, map, reverse, refl, sym, ap, ◌∙◌, arith, inl, inr}
use Rattle.std.specs.Prelude.{◌==◌, ◌≢◌, filter, count_by, if◌then◌else◌}
use Rattle.std.specs.List.{list_any}
use Rattle.std.proofs.lemmas.Bool.Decides.{nat_tests}
use Rattle.std.proofs.lemmas.Bool.{cases_lt}
use Rattle.std.proofs.lemmas.List.Sums.{sum_by-append, sum_by-cons}
use Rattle.std.proofs.lemmas.List.{reverse-append}
use Rattle.vx_ledger.specs.Copies.{Copy, numbers_of}
use Rattle.vx_ledger.specs.declared.parcel.Parcel.{Parcel}
use Rattle.vx_transform.specs.Shelves.{copies_dropped}
use Rattle.vx_condition.specs.Steps.{comes, ticks}
use Rattle.vx_record.specs.declared.entry.Entry.TheVariants.{Take, Tick, Answer}
use Rattle.vx_record.specs.Records.{Record}
use Rattle.vx_record.specs.Copies.{count, all_of, next_copy}
use Rattle.vx_record.specs.Turns.{lease_now}
use Rattle.vx_record.specs.Places.{all_puts, puts}
use Rattle.vx_record.specs.Places.Kind.{AHold, AChild}
use Rattle.vx_record.specs.Parcels.{first_copy, parcel_event}
use Rattle.vx_record.specs.Inputs.{Input as NotedInput, unanswered, at_answer, is_tick}
use Rattle.vx_record.specs.Tallies.{firsts_in, is_first}
use Rattle.vx_record.specs.Legal.{IsLegal}
use Rattle.vx_record.proofs.Counts.{count-append, put_count, put_count-append}
use Rattle.vx_record.proofs.Changes.{only-self}
use Rattle.vx_record.proofs.OnePlace.{conserved, tracked}
use Rattle.vx_record.proofs.Tracked.{born}
use Rattle.vx_places.specs.Numbers.{IsCopyIn}
use Rattle.vx_keeping.specs.Given.{firsts_of, is_among}
use Rattle.vx_keeping.specs.Keeping.{noted_input_at, taken_in}
use Rattle.vx_keeping.proofs.Weights.{of_number, count_numbers}
use Rattle.vx_keeping.proofs.Accounting.{take_filled}

-- PARCELS THAT WERE TAKEN
-- what those that an instance took weigh,
abbrev weigh : (List ℕ → ℕ) → Record → ℕ → ℕ
weigh f [] i = 0
weigh f (Take j s copies ∷ h) i = (if j == i then f copies else 0) + weigh f h i
weigh f (e ∷ h) i = weigh f h i

-- and those among some inputs
abbrev weigh_in : (List ℕ → ℕ) → List NotedInput → ℕ
weigh_in f [] = 0
weigh_in f (x ∷ xs) = (if is_tick x.step then 0 else f x.copies) + weigh_in f xs

-- they were taken before the last answer or since
weigh_parts : (f : List ℕ → ℕ) (h : Record) (i : ℕ) → weigh f h i ≡ weigh f (at_answer h i) i + weigh_in f (unanswered h i)
weigh_parts f [] i = refl
weigh_parts f (Take j s copies ∷ h) i = go (j == i) (weigh_parts f h i)
  where
    go : (b : Bool) → weigh f h i ≡ weigh f (at_answer h i) i + weigh_in f (unanswered h i) →
        (if b then f copies else 0) + weigh f h i ≡ weigh f (at_answer h i) i + weigh_in f ((if b then record { step = comes (parcel_event h copies) (lease_now h i); copies = copies } ∷ [] else []) ++ unanswered h i)
    go true ih = omega (arith, ih)
    go false ih = omega (arith, ih)
weigh_parts f (Tick j now ∷ h) i = go (j == i) (weigh_parts f h i)
  where
    go : (b : Bool) → weigh f h i ≡ weigh f (at_answer h i) i + weigh_in f (unanswered h i) →
        weigh f h i ≡ weigh f (at_answer h i) i + weigh_in f ((if b then record { step = ticks now; copies = [] } ∷ [] else []) ++ unanswered h i)
    go true ih = omega (arith, ih)
    go false ih = ih
weigh_parts f (Answer j outputs discarded kept ∷ h) i = go (j == i) (weigh_parts f h i)
  where
    go : (b : Bool) → weigh f h i ≡ weigh f (at_answer h i) i + weigh_in f (unanswered h i) →
        weigh f h i ≡ weigh f (if b then Answer j outputs discarded kept ∷ h else at_answer h i) i + weigh_in f (if b then [] else unanswered h i)
    go true ih = omega arith
    go false ih = ih
weigh_parts f (e ∷ h) i = weigh_parts f h i

legal_at : (h : Record) (i : ℕ) → IsLegal h → IsLegal (at_answer h i)
legal_at [] i legal = legal
legal_at (Answer j outputs discarded kept ∷ h) i legal = go (j == i) (legal_at h i legal.1)
  where
    go : (b : Bool) → IsLegal (at_answer h i) → IsLegal (if b then Answer j outputs discarded kept ∷ h else at_answer h i)
    go true before = legal
    go false before = before
legal_at (e ∷ h) i legal = legal_at h i legal.1

-- A COPY IS TAKEN ONCE
-- the copy that comes first, as a weight
abbrev of_first : ℕ → List ℕ → ℕ
of_first c copies = count c (first_copy copies ∷ [])

firsts_weigh : (c : ℕ) (h : Record) (i : ℕ) → count c (all_of (firsts_in i) h) ≡ weigh (of_first c) h i
firsts_weigh c [] i = refl
firsts_weigh c (Take j s copies ∷ h) i = go (j == i) (firsts_weigh c h i)
  where
    go : (b : Bool) → count c (all_of (firsts_in i) h) ≡ weigh (of_first c) h i → count c (all_of (firsts_in i) h ++ (if b then first_copy copies ∷ [] else [])) ≡ (if b then of_first c copies else 0) + weigh (of_first c) h i
    go true ih = let a = count-append c (all_of (firsts_in i) h) (first_copy copies ∷ []) in omega (arith, a, ih)
    go false ih = let a = count-append c (all_of (firsts_in i) h) [] in omega (arith, a, ih)
firsts_weigh c (e ∷ h) i = let a = count-append c (all_of (firsts_in i) h) [] in let ih = firsts_weigh c h i in omega (arith, a, ih)

first_within : (c : ℕ) (copies : List ℕ) → copies ≢ [] → of_first c copies ≤ count c copies
first_within c [] some = absurd (some refl)
first_within c (d ∷ ds) some = omega arith

firsts_within : (c : ℕ) (h : Record) (i : ℕ) → IsLegal h → weigh (of_first c) h i ≤ weigh (count c) h i
firsts_within c [] i legal = omega arith
firsts_within c (Take j s copies ∷ h) i legal = go (j == i) (firsts_within c h i legal.1) (first_within c copies (take_filled h j s copies legal))
  where
    go : (b : Bool) → weigh (of_first c) h i ≤ weigh (count c) h i → of_first c copies ≤ count c copies → (if b then of_first c copies else 0) + weigh (of_first c) h i ≤ (if b then count c copies else 0) + weigh (count c) h i
    go true ih l = omega (arith, ih, l)
    go false ih l = omega (arith, ih)
firsts_within c (e ∷ h) i legal = firsts_within c h i legal.1

took_within : (c : ℕ) (h : Record) (i : ℕ) → weigh (count c) h i ≤ put_count AHold (all_puts h) c
took_within c [] i = omega arith
took_within c (Take j s copies ∷ h) i =
    let ih = took_within c h i in
    let a = put_count-append AHold c (all_puts h) (puts (Take j s copies)) in
    let b = only-self AHold (count c copies) in
    let l = most (j == i) in
    omega (arith, ih, a, b, l)
  where
    most : (b : Bool) → (if b then count c copies else 0) ≤ count c copies
    most true = omega arith
    most false = omega arith
took_within c (e ∷ h) i =
    let ih = took_within c h i in
    let a = put_count-append AHold c (all_puts h) (puts e) in
    omega (arith, ih, a)

took_once : (c : ℕ) (h : Record) (i : ℕ) → IsLegal h → weigh (count c) h i ≤ 1
took_once c h i legal =
    let l = took_within c h i in
    let t = tracked h c (conserved h legal) in
    let a = t.push in
    let b = t.take in
    let made : born h c + put_count AChild (all_puts h) c ≤ 1 = elim (cases_lt c (next_copy h)) [
      | inl below ↦ let x = t.made below in omega (arith, x)
      | inr above ↦ let x = t.unmade above in omega (arith, x)
    ] in
    omega (arith, l, a, b, made)

-- THOSE THAT WAIT
weigh_append : (f : List ℕ → ℕ) (xs ys : List NotedInput) → weigh_in f (xs ++ ys) ≡ weigh_in f xs + weigh_in f ys
weigh_append f [] ys = omega arith
weigh_append f (x ∷ xs) ys = let ih = weigh_append f xs ys in omega (arith, ih)

weigh_reverse : (f : List ℕ → ℕ) (xs : List NotedInput) → weigh_in f (reverse xs) ≡ weigh_in f xs
weigh_reverse f [] = refl
weigh_reverse f (x ∷ xs) =
    let a = ap (weigh_in f) (reverse-append (x ∷ []) xs) in
    let b = weigh_append f (reverse xs) (x ∷ []) in
    let ih = weigh_reverse f xs in
    omega (arith, a, b, ih)

weigh_filter : (f : List ℕ → ℕ) (xs : List NotedInput) → weigh_in f (filter (λ (x : NotedInput). not (is_tick x.step)) xs) ≡ weigh_in f xs
weigh_filter f [] = refl
weigh_filter f (x ∷ xs) = go (is_tick x.step) refl (weigh_filter f xs)
  where
    go : (b : Bool) → is_tick x.step ≡ b → weigh_in f (filter (λ (x : NotedInput). not (is_tick x.step)) xs) ≡ weigh_in f xs →
        weigh_in f (if not b then x ∷ filter (λ (x : NotedInput). not (is_tick x.step)) xs else filter (λ (x : NotedInput). not (is_tick x.step)) xs) ≡ (if b then 0 else f x.copies) + weigh_in f xs
    go true is ih = omega (arith, ih)
    go false is ih = let a : (if is_tick x.step then 0 else f x.copies) ≡ f x.copies = ap (λ (b : Bool). if b then 0 else f x.copies) is in omega (arith, a, ih)

weigh_taken : (f : List ℕ → ℕ) (h : Record) (i : ℕ) → weigh_in f (taken_in h i) ≡ weigh_in f (unanswered h i)
weigh_taken f h i = weigh_reverse f (filter (λ (x : NotedInput). not (is_tick x.step)) (unanswered h i)) ∙ weigh_filter f (unanswered h i)

firsts_noted : (c now : ℕ) (ps : List Parcel) → weigh_in (of_first c) (map (noted_input_at now) ps) ≡ count c (firsts_of ps)
firsts_noted c now [] = refl
firsts_noted c now (p ∷ ps) = let ih = firsts_noted c now ps in omega (arith, ih)

copies_noted : (c now : ℕ) (ps : List Parcel) → weigh_in (count c) (map (noted_input_at now) ps) ≡ count c (numbers_of (copies_dropped ps))
copies_noted c now [] = refl
copies_noted c now (p ∷ ps) =
    let ih = copies_noted c now ps in
    let a = count_numbers c (copies_dropped (p ∷ ps)) in
    let b = sum_by-append (of_number c) p.finalizers (copies_dropped ps) in
    let d = count_numbers c p.finalizers in
    let e = count_numbers c (copies_dropped ps) in
    omega (arith, ih, a, b, d, e)

-- AMONG
any_some : (c : ℕ) (xs : List ℕ) → 0 < count c xs → list_any (λ d. d == c) xs ≡ true
any_some c [] some = absurd (omega (arith, some))
any_some c (x ∷ xs) some = go (x == c) some (any_some c xs)
  where
    go : (b : Bool) → 0 < (if b then 1 else 0) + count c xs → (0 < count c xs → list_any (λ d. d == c) xs ≡ true) → (b || list_any (λ d. d == c) xs) ≡ true
    go true l rest = refl
    go false l rest = rest (omega (arith, l))

any_none : (c : ℕ) (xs : List ℕ) → count c xs ≡ 0 → list_any (λ d. d == c) xs ≡ false
any_none c [] none = refl
any_none c (x ∷ xs) none = go (x == c) none (any_none c xs)
  where
    go : (b : Bool) → (if b then 1 else 0) + count c xs ≡ 0 → (count c xs ≡ 0 → list_any (λ d. d == c) xs ≡ false) → (b || list_any (λ d. d == c) xs) ≡ false
    go true none rest = absurd (omega (arith, none))
    go false none rest = rest (omega (arith, none))

any_same : (c : ℕ) (xs ys : List ℕ) → count c xs ≡ count c ys → list_any (λ d. d == c) xs ≡ list_any (λ d. d == c) ys
any_same c xs ys same = elim (cases_lt 0 (count c xs)) [
  | inl some ↦ any_some c xs some ∙ sym (any_some c ys (omega (arith, some, same)))
  | inr none ↦ any_none c xs (omega (arith, none)) ∙ sym (any_none c ys (omega (arith, none, same)))
]

-- a copy that waits came first in a parcel exactly where it does so in one that waits
module _ (h : Record) (i : ℕ) (ps : List Parcel) (legal : IsLegal h) (taken : map (noted_input_at (lease_now h i)) ps ≡ taken_in h i) where
  among_first : (c : ℕ) → 0 < count c (numbers_of (copies_dropped ps)) → is_among (firsts_of ps) c ≡ is_first h i c
  among_first c waits =
      let a = weigh_parts (of_first c) h i in
      let b = weigh_parts (count c) h i in
      let d = firsts_within c (at_answer h i) i (legal_at h i legal) in
      let e = took_once c h i legal in
      let f = ap (weigh_in (of_first c)) taken ∙ weigh_taken (of_first c) h i in
      let g = ap (weigh_in (count c)) taken ∙ weigh_taken (count c) h i in
      let k = firsts_noted c (lease_now h i) ps in
      let l = copies_noted c (lease_now h i) ps in
      let m = firsts_weigh c h i in
      any_same c (firsts_of ps) (all_of (firsts_in i) h) (omega (arith, a, b, d, e, f, g, k, l, m, waits))

  pub firsts_counted : (gone : List Copy) → ((copy : Copy) → IsCopyIn gone copy → IsCopyIn (copies_dropped ps) copy) → count_by (is_among (firsts_of ps)) (numbers_of gone) ≡ count_by (is_first h i) (numbers_of gone)
  firsts_counted [] among = refl
  firsts_counted (x ∷ gone) among =
      let ih = firsts_counted gone (λ copy is. among copy (inr is)) in
      let here = among_first x.number (counted_in (copies_dropped ps) x (among x (inl refl))) in
      let a = sum_by-cons (λ c. if is_among (firsts_of ps) c then 1 else 0) x.number (numbers_of gone) in
      let b = sum_by-cons (λ c. if is_first h i c then 1 else 0) x.number (numbers_of gone) in
      let e = ap {B = ℕ} (λ (t : Bool). if t then 1 else 0) here in
      omega (arith, ih, a, b, e)
    where
      counted_in : (cs : List Copy) (copy : Copy) → IsCopyIn cs copy → 0 < count copy.number (numbers_of cs)
      counted_in [] copy is = absurd is
      counted_in (c ∷ cs) copy (inl here) = let same = ap (λ (y : Copy). y.number) here in grind (arith, nat_tests, same)
      counted_in (c ∷ cs) copy (inr more) = let l = counted_in cs copy more in omega (arith, l)
