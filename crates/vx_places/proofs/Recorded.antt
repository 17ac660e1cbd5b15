-- What is asked of the places, in the record's own words.
use Rattle.std.proofs.Common.{◌≡◌, ℕ, ◌+◌, ◌<◌, Bool, true, false, List, [], ◌∷◌, length, refl, sym, ap, ◌∙◌, arith, Option, Some, None, IfSome}
use Rattle.std.specs.Prelude.{◌≢◌, ◌↔◌, ◌==◌, if◌then◌else◌, map, IsSome, IsSomeAnd}
use Rattle.std.proofs.lemmas.Bool.Decides.{nat_tests}
use Rattle.std.proofs.lemmas.Bool.{eqb-true}
use Rattle.std.proofs.lemmas.List.{length-map}
use Rattle.vx_value.specs.Filled.{Filled}
use Rattle.vx_ledger.specs.Copies.{Copy, numbers_of}
use Rattle.vx_ledger.specs.declared.parcel.Parcel.{Parcel}
use Rattle.vx_record.specs.Records.{Record}
use Rattle.vx_record.specs.Copies.{count}
use Rattle.vx_record.specs.Places.{Place, owner, same_place, all_puts, left}
use Rattle.vx_record.specs.Places.Place.{Outputs, Waiting, Contents, Held}
use Rattle.vx_record.specs.Lists.{stands, parcels_at, all_waiting, buffered, is_child_of, is_stage_of, places, times_among}
use Rattle.vx_record.specs.Legal.{IsLegal}
use Rattle.vx_record.proofs.Changes.{NoneEmpty, none_empty, same_place_is, same_place_self, places_meant}
use Rattle.vx_record.proofs.HeldCopies.{times_some}
use Rattle.vx_record.proofs.OnePlace.{live_stands}
use Rattle.vx_record.proofs.Shifting.{stands_at}
use Rattle.vx_record.proofs.Vacant.{Sent, where_none, none_where, empty_is, is_empty_of, sent_of, is_sent_of, bare_of, bare_sent, bare_unfilled}
use Rattle.vx_places.specs.declared.row.Row.{Row}
use Rattle.vx_places.specs.Numbers.{numbers, EachFilled}
use Rattle.vx_places.specs.Views.{row_at, stage_at, stage_items, held_items, here_if, parcels_here}
use Rattle.vx_places.specs.Holding.{Holds}
use Rattle.vx_places.specs.Calls.{NoneWaits}
use Rattle.vx_places.specs.Looks.{HasSent, HasEmptyBuffer}
use Rattle.vx_places.specs.Laws.{OutputIs, NoneWaitsIs, AwaitsIs, SentIs, SomeIs, BufferIs, HoldsIs, BareIs, ClearIs, ClearBareIs, FilledThere, LentFilled, StandsThere}
use Rattle.vx_places.proofs.Looking.{none_waits_for, none_waits_for_all, bare_is, clear_is, clear_sent, clear_buffer}

-- WHAT IS SEEN
-- all but what is held can always be seen
abbrev IsSeen : Place → Type 0
IsSeen (Held i) = ⊥
IsSeen p = Unit {0}

seen : (p : Place) (o : Option Row) → IsSeen p → IsSome (here_if p o)
seen (Held i) o never = absurd never
seen p None is = refl
seen p (Some row) is = refl

-- and that where it is not lent
held_seen : (i : ℕ) (o : Option Row) → IsSomeAnd o (λ row. IsSome row.held) → IsSome (here_if (Held i) o)
held_seen i None kept = absurd kept
held_seen i (Some row) kept = go row.held kept
  where
    go : (held : Option (Filled Parcel)) → IsSome held → IsSome (held_items held)
    go None is = is
    go (Some line) is = refl

-- a stage has a parcel where one is seen there
stage_seen : (i s : ℕ) (o : Option Row) →
    IsSomeAnd o (λ row. IsSomeAnd (stage_at row.stages.items s) (λ stage. 0 < length stage.items)) ↔ IsSomeAnd (here_if (Contents i s) o) (λ ps. 0 < length ps)
stage_seen i s None = (λ never. absurd never, λ some. omega (arith, some))
stage_seen i s (Some row) = go (stage_at row.stages.items s)
  where
    go : (o : Option (Filled Parcel)) → IsSomeAnd o (λ stage. 0 < length stage.items) ↔ (0 < length (stage_items o))
    go None = (λ never. absurd never, λ some. omega (arith, some))
    go (Some stage) = (λ some. some, λ some. some)

-- WHAT IS SEEN OF PARCELS WHOSE NUMBERS ARE KNOWN
-- that there is none,
nothing : (o : Option (List Parcel)) (xs : List (List ℕ)) → IfSome o (λ ps. numbers ps ≡ xs) → IsSome o → xs ≡ [] → o ≡ Some []
nothing None xs is some gone = cc
nothing (Some []) xs is some gone = refl
nothing (Some (p ∷ ps)) xs is some gone = cc

-- that there is one,
something : (o : Option (List Parcel)) (xs : List (List ℕ)) → IfSome o (λ ps. numbers ps ≡ xs) → IsSome o → IsSomeAnd o (λ ps. 0 < length ps) ↔ (0 < length xs)
something None xs is some = absurd cc
something (Some ps) xs is some = let n = length-map ps (λ (p : Parcel). numbers_of p.finalizers) in let m = ap length is in omega (arith, n, m)

-- and how many there are
as_many : (o : Option (List Parcel)) (xs : List (List ℕ)) (n : ℕ) → IfSome o (λ ps. numbers ps ≡ xs) → IsSomeAnd o (λ ps. n ≡ length ps) → n ≡ length xs
as_many None xs n is many = absurd many
as_many (Some ps) xs n is many = many ∙ sym (length-map ps (λ (p : Parcel). numbers_of p.finalizers)) ∙ ap length is

-- none of them is empty
filled_first : (cs : List Copy) (rest : List (List ℕ)) → NoneEmpty (numbers_of cs ∷ rest) → (cs ≢ []) × NoneEmpty rest
filled_first [] rest full = absurd full
filled_first (c ∷ cs) rest full = ((λ none. cc), full)

filled_of : (ps : List Parcel) → NoneEmpty (numbers ps) → EachFilled ps
filled_of [] full = tt
filled_of (p ∷ ps) full = let parts = filled_first p.finalizers (numbers ps) full in (parts.0, filled_of ps parts.1)

times_there : (p : Place) (qs : List Place) → 0 < times_among p qs → 0 < count (owner p) (map owner qs)
times_there p [] some = absurd (omega (arith, some))
times_there p (q ∷ qs) some = go (same_place q p) refl some (times_there p qs)
  where
    go : (b : Bool) → same_place q p ≡ b → 0 < (if b then 1 else 0) + times_among p qs → (0 < times_among p qs → 0 < count (owner p) (map owner qs)) →
        0 < (if owner q == owner p then 1 else 0) + count (owner p) (map owner qs)
    go true is l rest = let same = ap owner (same_place_is q p is) in grind (arith, nat_tests, same)
    go false is l rest = let more = rest (omega (arith, l)) in omega (arith, more)

module _ (h : Record) (rows : List Row) (legal : IsLegal h) (holds : Holds rows h) where
  -- what is seen at a place is what the record has there
  stand : (p : Place) → IfSome (parcels_here rows p) (λ ps. numbers ps ≡ parcels_at p (stands h))
  stand p = rw (stands_at h p legal) (holds.stand p)

  are : (p : Place) (ps : List Parcel) → parcels_here rows p ≡ Some ps → numbers ps ≡ parcels_at p (stands h)
  are p ps there = rw there at (stand p)

  pub many : (p : Place) (ps : List Parcel) → parcels_here rows p ≡ Some ps → length ps ≡ length (parcels_at p (stands h))
  many p ps there = sym (length-map ps (λ (x : Parcel). numbers_of x.finalizers)) ∙ ap length (are p ps there)

  none : (p : Place) → parcels_here rows p ≡ Some [] → parcels_at p (stands h) ≡ []
  none p there = sym (are p [] there)

  none_there : (p : Place) → IsSome (parcels_here rows p) → parcels_at p (stands h) ≡ [] → parcels_here rows p ≡ Some []
  none_there p = nothing (parcels_here rows p) (parcels_at p (stands h)) (stand p)

  some : (p : Place) → IsSeen p → IsSomeAnd (parcels_here rows p) (λ ps. 0 < length ps) ↔ (0 < length (parcels_at p (stands h)))
  some p is = something (parcels_here rows p) (parcels_at p (stands h)) (stand p) (seen p (row_at rows (owner p)) is)

  filled : (p : Place) (ps : List Parcel) → parcels_here rows p ≡ Some ps → EachFilled ps
  filled p ps there = filled_of ps (rw (are p ps there) (none_empty p (left h) (all_puts h)))

  sent : (i : ℕ) → HasSent rows i → Sent h i
  sent i has = record { put_out = none (Outputs i) has.0; waits = λ t. none (Waiting i t) (has.1 t) }

  sent_there : (i : ℕ) → Sent h i → HasSent rows i
  sent_there i has = (
    none_there (Outputs i) (seen (Outputs i) (row_at rows i) tt) has.put_out,
    λ t. none_there (Waiting i t) (seen (Waiting i t) (row_at rows i) tt) (has.waits t),
  )

-- THE LAWS
pub output_is : OutputIs
output_is h rows i legal holds = some h rows legal holds (Outputs i) tt

pub none_waits_is : NoneWaitsIs
none_waits_is h rows i l legal holds = (
  λ gone. empty_is (all_waiting h i) (none_where (is_child_of i) (stands h) (child gone)),
  λ gone. none_waits_for_all rows i l (λ t. none_there h rows legal holds (Waiting i t) (seen (Waiting i t) (row_at rows i) tt)
      (where_none (is_child_of i) (stands h) (is_empty_of (all_waiting h i) gone) (Waiting i t) (same_place_self (Outputs i)))),
)
  where
    child : NoneWaits rows i → (p : Place) → is_child_of i p ≡ true → parcels_at p (stands h) ≡ []
    child gone (Waiting j t) is = rw (eqb-true j i is) (none h rows legal holds (Waiting i t) (none_waits_for rows i t gone))
    child gone p is = cc

pub awaits_is : AwaitsIs
awaits_is h rows i t legal holds = some h rows legal holds (Waiting i t) tt

pub sent_is : SentIs
sent_is h rows i legal holds = (λ has. is_sent_of h i (sent h rows legal holds i has), λ is. sent_there h rows legal holds i (sent_of h i is))

pub some_is : SomeIs
some_is h rows i s legal holds =
    let to = stage_seen i s (row_at rows i) in
    let there = some h rows legal holds (Contents i s) tt in (λ has. there.0 (to.0 has), λ is. to.1 (there.1 is))

pub buffer_is : BufferIs
buffer_is h rows i legal holds = (
  λ empty. empty_is (buffered h i) (none_where (is_stage_of i) (stands h) (stage empty)),
  λ gone s. none_there h rows legal holds (Contents i s) (seen (Contents i s) (row_at rows i) tt)
      (where_none (is_stage_of i) (stands h) (is_empty_of (buffered h i) gone) (Contents i s) (same_place_self (Outputs i))),
)
  where
    stage : HasEmptyBuffer rows i → (p : Place) → is_stage_of i p ≡ true → parcels_at p (stands h) ≡ []
    stage empty (Contents j s) is = rw (eqb-true j i is) (none h rows legal holds (Contents i s) (empty s))
    stage empty p is = cc

pub holds_is : HoldsIs
holds_is h rows i n legal holds = as_many (parcels_here rows (Held i)) (parcels_at (Held i) (stands h)) n (stand h rows legal holds (Held i))

pub bare_is_bare : BareIs
bare_is_bare h rows i legal holds = (
  λ bare. bare_of h i (sent h rows legal holds i (bare (Outputs i) refl, λ t. bare (Waiting i t) refl)) (record {
    buffer = λ s. none h rows legal holds (Contents i s) (bare (Contents i s) refl);
    holdings = none h rows legal holds (Held i) (bare (Held i) refl);
  }),
  λ kept bare.
      let rest = bare_unfilled h i bare in
      bare_is rows i (sent_there h rows legal holds i (bare_sent h i bare))
      (λ s. none_there h rows legal holds (Contents i s) (seen (Contents i s) (row_at rows i) tt) (rest.buffer s))
      (none_there h rows legal holds (Held i) (held_seen i (row_at rows i) kept) rest.holdings),
)

pub clear_is_clear : ClearIs
clear_is_clear h rows i legal holds = (
  λ clear. ((sent_is h rows i legal holds).0 (clear_sent rows i clear), (buffer_is h rows i legal holds).0 (clear_buffer rows i clear)),
  λ is. clear_is rows i ((sent_is h rows i legal holds).1 is.0) ((buffer_is h rows i legal holds).1 is.1),
)

pub clear_bare_is : ClearBareIs
clear_bare_is h rows i legal holds = (
  λ is. bare_of h i (sent h rows legal holds i (clear_sent rows i is.0)) (record { buffer = λ s. none h rows legal holds (Contents i s) (is.0 (Contents i s) refl refl); holdings = is.1 }),
  λ bare.
      let rest = bare_unfilled h i bare in (
        clear_is rows i (sent_there h rows legal holds i (bare_sent h i bare))
            (λ s. none_there h rows legal holds (Contents i s) (seen (Contents i s) (row_at rows i) tt) (rest.buffer s)),
        rest.holdings,
      ),
)

pub filled_there : FilledThere
filled_there h rows p parcels legal holds there = filled h rows legal holds p parcels there

pub lent_filled : LentFilled
lent_filled h i parcels old new legal lends holds = filled h old legal holds (Held i) parcels lends.was

pub stands_there : StandsThere
stands_there h c p legal there =
    let times : 0 < times_among p (places h c) = rw (places_meant h c p) at (rw (← (stands_at h p legal)) at there) in
    let most = times_some p (places h c) in
    ((live_stands h legal c).1 (omega (arith, times, most)), times_there p (places h c) times)
