-- How the spend of a copy changes the places.
use Rattle.std.proofs.Common.{◌≡◌, ℕ, ◌+◌, ◌<◌, ◌≤◌, Bool, true, false, List, [], ◌∷◌, ◌++◌, refl, sym, ap, ◌∙◌, arith, Option, Some, None, IfSome, inl, inr, subst}
use Rattle.std.specs.Prelude.{◌==◌, if◌then◌else◌}
use Rattle.std.specs.Option.{option_map}
use Rattle.std.proofs.lemmas.Bool.Decides.{nat_tests}
use Rattle.std.proofs.lemmas.Bool.{eq-eqb}
use Rattle.std.proofs.lemmas.List.{map-append}
use Rattle.vx_value.specs.declared.event.Event.{Event}
use Rattle.vx_status.specs.declared.outcome.Outcome.{Outcome}
use Rattle.vx_ledger.specs.Copies.{Copy, numbers_of}
use Rattle.vx_ledger.specs.declared.parcel.Parcel.{Parcel}
use Rattle.vx_record.specs.declared.entry.Entry.TheVariants.{Spent}
use Rattle.vx_record.specs.Records.{Record}
use Rattle.vx_record.specs.Copies.{count, joined}
use Rattle.vx_record.specs.Places.{Place, owner, same_place, all_puts, left}
use Rattle.vx_record.specs.Places.Place.{Held}
use Rattle.vx_record.specs.Lists.{without, and_rest, shrunk, stands, parcels_at}
use Rattle.vx_record.specs.Shifts.{shift, at}
use Rattle.vx_record.specs.Legal.{IsLegal}
use Rattle.vx_record.proofs.Changes.{NoneEmpty, none_empty, shrunk-none, stands_once}
use Rattle.vx_record.proofs.Counts.{count-append}
use Rattle.vx_record.proofs.HeldCopies.{AreAt, others_stay}
use Rattle.vx_record.proofs.OnePlace.{conserved}
use Rattle.vx_record.proofs.Shifting.{stands_at}
use Rattle.vx_places.specs.declared.row.Row.{Row}
use Rattle.vx_places.specs.Numbers.{numbers}
use Rattle.vx_places.specs.Views.{parcels_here, numbers_here, IsAt}
use Rattle.vx_places.specs.Holding.{Holds}
use Rattle.vx_places.specs.Calls.{Loses, left_of}
use Rattle.vx_places.specs.Laws.{SpentShifts, LentSpentShifts}
use Rattle.vx_places.proofs.Written.{each_place}
use Rattle.vx_places.proofs.Losing.{among_before}
use Rattle.vx_places.proofs.Steps.{came}

-- LISTS
without_last : (c : ℕ) (xs : List ℕ) → count c xs ≡ 0 → without (c ∷ []) (xs ++ c ∷ []) ≡ xs
without_last c [] none = rw (eq-eqb c c refl)
without_last c (x ∷ xs) none =
    let fewer : count c xs ≡ 0 = omega (arith, none) in
    let off : (c == x) ≡ false = grind (arith, nat_tests, none) in
    rw off (ap (λ (ys : List ℕ). x ∷ ys) (without_last c xs fewer))

left_numbers : (event : Event) (cs : List Copy) (rest : List Parcel) → numbers (left_of event cs rest) ≡ and_rest (numbers_of cs) (numbers rest)
left_numbers event [] rest = refl
left_numbers event (c ∷ cs) rest = refl

rest_full : (x : List ℕ) (rest : List (List ℕ)) → NoneEmpty (x ∷ rest) → NoneEmpty rest
rest_full [] rest full = absurd full
rest_full (c ∷ cs) rest full = full

-- where a copy stands once, its parcel alone shrinks
first_shrinks : (c : ℕ) (xs : List ℕ) (rest : List (List ℕ)) → NoneEmpty ((xs ++ c ∷ []) ∷ rest) → count c (joined ((xs ++ c ∷ []) ∷ rest)) ≤ 1 →
    shrunk (c ∷ []) ((xs ++ c ∷ []) ∷ rest) ≡ and_rest xs rest
first_shrinks c xs rest full once =
    let a = count-append c (xs ++ c ∷ []) (joined rest) in
    let b = count-append c xs (c ∷ []) in
    let one : count c (c ∷ []) ≡ 1 = grind (arith, nat_tests) in
    let none : count c xs ≡ 0 = omega (arith, a, b, one, once) in
    let gone : count c (joined rest) ≡ 0 = omega (arith, a, b, one, once) in
    ap (λ ys. and_rest ys (shrunk (c ∷ []) rest)) (without_last c xs none)
    ∙ ap (and_rest xs) (shrunk-none (c ∷ []) rest (rest_full (xs ++ c ∷ []) rest full) (λ d l. elsewhere d l gone))
  where
    elsewhere : (d : ℕ) → 0 < count d (joined rest) → count c (joined rest) ≡ 0 → count d (c ∷ []) ≡ 0
    elsewhere d l gone = go (c == d) refl
      where
        go : (b : Bool) → (c == d) ≡ b → (if b then 1 else 0) + 0 ≡ 0
        go true is = let same : c ≡ d = grind (arith, nat_tests) in let none = rw same at gone in absurd (omega (arith, l, none))
        go false is = refl

-- A COPY LEFT
-- what stays of the parcels at a place stays of their numbers, or the place is lent
mapped : (F : List (List ℕ) → List (List ℕ)) (o : Option (List Parcel)) (xs : List (List ℕ)) → IfSome o (λ ps. numbers ps ≡ xs) → F xs ≡ xs →
    option_map numbers o ≡ option_map F (option_map numbers o)
mapped F None xs is same = refl
mapped F (Some ps) xs is same = ap Some (is ∙ sym same ∙ sym (ap F is))

-- of every place but that at which a copy stands nothing goes
stays_at : (h : Record) (q p : Place) (gone : List ℕ) → IsLegal h → AreAt h q gone → same_place q p ≡ false → (b : Bool) →
    (if b then shrunk gone (at h p) else at h p) ≡ at h p
stays_at h q p gone legal are other true = rw (← (stands_at h p legal)) (others_stay h q p gone (conserved h legal) are other)
stays_at h q p gone legal are other false = refl

module _ (h : Record) (i : ℕ) (outcome : Outcome) (q : Place) (copy : Copy) (last : Bool) (old new : List Row) (own : owner q ≡ i) (legal : IsLegal (Spent i copy.number outcome ∷ h))
    (holds : Holds old h) (loses : Loses q copy last old new) where
  -- the parcels at the place, by their numbers: the last of the first goes
  abbrev gone : List ℕ
  gone = copy.number ∷ []

  abbrev rest : List (List ℕ)
  rest = numbers loses.loses.rest

  before_is : numbers loses.before ≡ (numbers_of loses.loses.left ++ gone) ∷ rest
  before_is = ap numbers loses.loses.was ∙ ap (λ (ns : List ℕ). ns ∷ rest) (map-append (λ (c : Copy). c.number) loses.loses.left (copy ∷ []))

  -- as the record has it
  has : parcels_at q (stands h) ≡ (numbers_of loses.loses.left ++ gone) ∷ rest
  has = stands_at h q legal.1 ∙ sym (rw loses.was at (holds.stand q)) ∙ before_is

  after_is : numbers loses.after ≡ shrunk gone (numbers loses.before)
  after_is =
      let full = subst NoneEmpty has (none_empty q (left h) (all_puts h)) in
      let once = rw has at (stands_once h copy.number q (conserved h legal.1)) in
      ap numbers loses.loses.now ∙ left_numbers loses.loses.event loses.loses.left loses.loses.rest
      ∙ sym (first_shrinks copy.number (numbers_of loses.loses.left) rest full once)
      ∙ ap (shrunk gone) (sym before_is)

  are_at : AreAt h q gone
  are_at d l =
      let a = count-append d (numbers_of loses.loses.left ++ gone) (joined rest) in
      let b = count-append d (numbers_of loses.loses.left) gone in
      rw has (omega (arith, a, b, l))

  each : (p : Place) → numbers_here new p ≡ option_map (shift (Spent i copy.number outcome) p) (numbers_here old p)
  each = each_place q (λ p. numbers_here new p ≡ option_map (λ xs. if i == owner p then shrunk gone xs else xs) (numbers_here old p)) (rw (mine, loses.now, loses.was) (ap Some after_is))
      (λ p other. rw (loses.others p other) (mapped (λ xs. if i == owner p then shrunk gone xs else xs) (parcels_here old p) (at h p) (holds.stand p) (stays_at h q p gone legal.1 are_at other (i == owner p))))
    where
      mine : (i == owner q) ≡ true
      mine = grind (arith, nat_tests, own)

  comes : (p : Place) (ev : Event) (d : Copy) → IsAt new p ev d → IsAt old p ev d
  comes p ev d now =
      elim (came q old new loses.was loses.now loses.others (λ e x. ⊥)
      (λ e x at. inl (rw loses.loses.was (among_before loses.loses.event loses.loses.left copy loses.loses.rest e x (rw loses.loses.now at at)))) p ev d now) [
        | inl before ↦ before
        | inr none ↦ absurd none
      ]

pub spent_shifts : SpentShifts
spent_shifts h i outcome q copy last old new own legal holds loses = record {
  each = each h i outcome q copy last old new own legal holds loses;
  comes = λ p ev d now. inl (comes h i outcome q copy last old new own legal holds loses p ev d now);
  on = λ j ports d now. inl (loses.on j ports d now);
}

-- A COPY OF WHAT IS LENT
pub lent_spent_shifts : LentSpentShifts
lent_spent_shifts h i c outcome rows lent there legal holds = record {
  each = each_place (Held i) (λ p. numbers_here rows p ≡ option_map (λ xs. if i == owner p then shrunk (c ∷ []) xs else xs) (numbers_here rows p)) (rw lent refl)
      (λ p other. mapped (λ xs. if i == owner p then shrunk (c ∷ []) xs else xs) (parcels_here rows p) (at h p) (holds.stand p)
      (stays_at h (Held i) p (c ∷ []) legal.1 are_at other (i == owner p)));
  comes = λ p ev d now. inl now;
  on = λ j ports d now. inl now;
}
  where
    are_at : AreAt h (Held i) (c ∷ [])
    are_at d l =
        let same : c ≡ d = grind (arith, nat_tests, l) in
        subst (λ (x : ℕ). 0 < count x (joined (parcels_at (Held i) (stands h)))) same (rw (stands_at h (Held i) legal.1) there)
