-- The first stage with room, and the first with a parcel, in the record's own words.
use Rattle.std.proofs.Common.{◌≡◌, ℕ, zero, suc, ◌+◌, ◌<◌, Bool, true, false, List, [], ◌∷◌, length, refl, subst, sym, ap, ◌∙◌, arith, Option, Some, None}
use Rattle.std.specs.Prelude.{◌↔◌, if◌then◌else◌, nat_lt, map, IsSomeAnd}
use Rattle.std.specs.List.{slice_get}
use Rattle.std.specs.Option.{option_map}
use Rattle.std.proofs.lemmas.Bool.Decides.{nat_tests}
use Rattle.std.proofs.lemmas.List.{length-map}
use Rattle.std.proofs.lemmas.Option.{slice_get-map}
use Rattle.vx_value.specs.Filled.{Filled}
use Rattle.vx_plan.specs.declared.stage.Stage.{Stage}
use Rattle.vx_ledger.specs.declared.parcel.Parcel.{Parcel}
use Rattle.vx_record.specs.Records.{Record}
use Rattle.vx_record.specs.Places.Place.{Contents}
use Rattle.vx_record.specs.Lists.{contents}
use Rattle.vx_record.specs.Legal.{IsLegal}
use Rattle.vx_record.specs.Stages.{stages_of, room_from, filled_from}
use Rattle.vx_places.specs.declared.row.Row.{Row}
use Rattle.vx_places.specs.Views.{row_at, stage_items, here_if}
use Rattle.vx_places.specs.Capacities.{capacities_if}
use Rattle.vx_places.specs.Holding.{Holds}
use Rattle.vx_places.specs.Looks.{IsFirst}
use Rattle.vx_places.specs.Laws.{FirstRoomIs, FirstFilledIs}
use Rattle.vx_places.proofs.Written.{one_some}
use Rattle.vx_places.proofs.Recorded.{many}

-- THE FIRST OF A LIST
-- the first stage of which a test is true, where they begin with a number
abbrev first_from : (ℕ → Stage → Bool) → ℕ → List Stage → Option ℕ
first_from test k [] = None
first_from test k (stage ∷ rest) = if test k stage then Some k else first_from test (k + 1) rest

-- the test tells of each stage whether something holds of its line
abbrev Reports : (ℕ → Stage → Bool) → (Filled Parcel → Type 0) → ℕ → List (Filled Parcel) → List Stage → Type 0
Reports test F k lines stages = (r : ℕ) (line : Filled Parcel) (stage : Stage) → slice_get lines r ≡ Some line → slice_get stages r ≡ Some stage → (test (k + r) stage ≡ true) ↔ F line

reports_here : (test : ℕ → Stage → Bool) (F : Filled Parcel → Type 0) (k : ℕ) (line : Filled Parcel) (lines : List (Filled Parcel)) (stage : Stage) (rest : List Stage) →
    Reports test F k (line ∷ lines) (stage ∷ rest) → (test k stage ≡ true) ↔ F line
reports_here test F k line lines stage rest reports =
    let same : k + zero ≡ k = omega arith in subst (λ (n : ℕ). (test n stage ≡ true) ↔ F line) same (reports zero line stage refl refl)

reports_later : (test : ℕ → Stage → Bool) (F : Filled Parcel → Type 0) (k : ℕ) (line : Filled Parcel) (lines : List (Filled Parcel)) (stage : Stage) (rest : List Stage) →
    Reports test F k (line ∷ lines) (stage ∷ rest) → Reports test F (k + 1) lines rest
reports_later test F k line lines stage rest reports r l s is there =
    let same : k + suc r ≡ (k + 1) + r = omega arith in subst (λ (n : ℕ). (test n s ≡ true) ↔ F l) same (reports (suc r) l s is there)

off : (b : Bool) (x y : Option ℕ) → (b ≡ true → ⊥) → (if b then x else y) ≡ y
off true x y never = absurd (never refl)
off false x y never = refl

first_is : (test : ℕ → Stage → Bool) (F : Filled Parcel → Type 0) (k : ℕ) (lines : List (Filled Parcel)) (stages : List Stage) (answer : Option ℕ) →
    length lines ≡ length stages → Reports test F k lines stages → IsFirst (λ s. IsSomeAnd (slice_get lines s) F) answer → first_from test k stages ≡ option_map (λ r. k + r) answer
first_is test F k [] [] None same reports first = refl
first_is test F k [] [] (Some r) same reports first = absurd first.0
first_is test F k [] (stage ∷ rest) answer same reports first = absurd (omega (arith, same))
first_is test F k (line ∷ lines) [] answer same reports first = absurd (omega (arith, same))
first_is test F k (line ∷ lines) (stage ∷ rest) None same reports first =
    off (test k stage) (Some k) (first_from test (k + 1) rest) (λ is. first zero ((reports_here test F k line lines stage rest reports).0 is))
    ∙ first_is test F (k + 1) lines rest None (omega (arith, same)) (reports_later test F k line lines stage rest reports) (λ r. first (suc r))
first_is test F k (line ∷ lines) (stage ∷ rest) (Some zero) same reports first =
    let begins : k ≡ k + zero = omega arith in
    ap (λ b. if b then Some k else first_from test (k + 1) rest) ((reports_here test F k line lines stage rest reports).1 first.0) ∙ ap Some begins
first_is test F k (line ∷ lines) (stage ∷ rest) (Some (suc r)) same reports first =
    let more : (k + 1) + r ≡ k + suc r = omega arith in
    off (test k stage) (Some k) (first_from test (k + 1) rest) (λ is. first.1 zero (omega arith) ((reports_here test F k line lines stage rest reports).0 is))
    ∙ first_is test F (k + 1) lines rest (Some r) (omega (arith, same)) (reports_later test F k line lines stage rest reports) (first.0, λ q l. first.1 (suc q) (omega (arith, l)))
    ∙ ap Some more

from_none : (answer : Option ℕ) → option_map (λ r. 0 + r) answer ≡ answer
from_none None = refl
from_none (Some r) = let same : 0 + r ≡ r = omega arith in ap Some same

-- STAGES OF A ROW
abbrev stages_if : Option Row → List (Filled Parcel)
stages_if None = []
stages_if (Some row) = row.stages.items

capacities_of_row : (o : Option Row) → capacities_if o ≡ map (λ (line : Filled Parcel). line.room) (stages_if o)
capacities_of_row None = refl
capacities_of_row (Some row) = refl

contents_of_row : (i s : ℕ) (o : Option Row) (line : Filled Parcel) → slice_get (stages_if o) s ≡ Some line → here_if (Contents i s) o ≡ Some line.items
contents_of_row i s None line is = absurd cc
contents_of_row i s (Some row) line is = ap (λ l. Some (stage_items l)) is

by_stage : (F : Filled Parcel → Type 0) (o : Option Row) (answer : Option ℕ) → IsFirst (λ s. IsSomeAnd o (λ row. IsSomeAnd (slice_get row.stages.items s) F)) answer →
    IsFirst (λ s. IsSomeAnd (slice_get (stages_if o) s) F) answer
by_stage F None None first = λ s is. is
by_stage F None (Some s) first = absurd first.0
by_stage F (Some row) answer first = first

module _ (h : Record) (rows : List Row) (i : ℕ) (legal : IsLegal h) (holds : Holds rows h) where
  abbrev lines : List (Filled Parcel)
  lines = stages_if (row_at rows i)

  abbrev room_test : ℕ → Stage → Bool
  room_test s stage = nat_lt (length (contents h i s)) stage.max_events

  abbrev filled_test : ℕ → Stage → Bool
  filled_test s stage = nat_lt 0 (length (contents h i s))

  room_from_is : (k : ℕ) (stages : List Stage) → room_from k h i stages ≡ first_from room_test k stages
  room_from_is k [] = refl
  room_from_is k (stage ∷ rest) = ap (λ (o : Option ℕ). if room_test k stage then Some k else o) (room_from_is (k + 1) rest)

  filled_from_is : (k : ℕ) (stages : List Stage) → filled_from k h i stages ≡ first_from filled_test k stages
  filled_from_is k [] = refl
  filled_from_is k (stage ∷ rest) = ap (λ (o : Option ℕ). if filled_test k stage then Some k else o) (filled_from_is (k + 1) rest)

  -- how many parcels the record has in a stage
  many_in : (r : ℕ) (line : Filled Parcel) → slice_get lines r ≡ Some line → length line.items ≡ length (contents h i (0 + r))
  many_in r line is =
      let same : r ≡ 0 + r = omega arith in
      many h rows legal holds (Contents i r) line.items (contents_of_row i r (row_at rows i) line is) ∙ ap (λ s. length (contents h i s)) same

  reports_room : map (λ (line : Filled Parcel). line.room) lines ≡ map (λ (stage : Stage). stage.max_events) (stages_of h i) →
      Reports room_test (λ line. length line.items < line.room) 0 lines (stages_of h i)
  reports_room capacities r line stage is there =
      let n = many_in r line is in
      let m : line.room ≡ stage.max_events = one_some _ _ (ap (option_map (λ (x : Filled Parcel). x.room)) (sym is) ∙ sym (slice_get-map (λ (x : Filled Parcel). x.room) lines r)
      ∙ ap (λ ns. slice_get ns r) capacities ∙ slice_get-map (λ (x : Stage). x.max_events) (stages_of h i) r ∙ ap (option_map (λ (x : Stage). x.max_events)) there) in
      ((λ is. grind (arith, nat_tests, is, n, m)), (λ free. grind (arith, nat_tests, free, n, m)))

  reports_filled : Reports filled_test (λ line. 0 < length line.items) 0 lines (stages_of h i)
  reports_filled r line stage is there = let n = many_in r line is in ((λ is. grind (arith, nat_tests, is, n)), (λ some. grind (arith, nat_tests, some, n)))

-- THE LAWS
pub first_room_is : FirstRoomIs
first_room_is h rows t answer legal holds capacities first =
    let are = sym (capacities_of_row (row_at rows t)) ∙ capacities in
    let as_many : length (stages_if (row_at rows t)) ≡ length (stages_of h t) =
    omega (arith, ap length are, length-map (stages_if (row_at rows t)) (λ (x : Filled Parcel). x.room), length-map (stages_of h t) (λ (x : Stage). x.max_events)) in
    room_from_is h rows t legal holds 0 (stages_of h t)
    ∙ first_is (room_test h rows t legal holds) _ 0 (lines h rows t legal holds) (stages_of h t) answer as_many (reports_room h rows t legal holds are)
    (by_stage (λ line. length line.items < line.room) (row_at rows t) answer first)
    ∙ from_none answer

pub first_filled_is : FirstFilledIs
first_filled_is h rows i answer legal holds same first =
    let as_many : length (stages_if (row_at rows i)) ≡ length (stages_of h i) =
    omega (arith, same, ap length (capacities_of_row (row_at rows i)), length-map (stages_if (row_at rows i)) (λ (x : Filled Parcel). x.room)) in
    filled_from_is h rows i legal holds 0 (stages_of h i)
    ∙ first_is (filled_test h rows i legal holds) _ 0 (lines h rows i legal holds) (stages_of h i) answer as_many (reports_filled h rows i legal holds)
    (by_stage (λ line. 0 < length line.items) (row_at rows i) answer first)
    ∙ from_none answer
