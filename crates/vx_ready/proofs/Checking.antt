-- When instances that merge act by themselves.
use Rattle.std.proofs.Common.{◌≡◌, ◌∙◌, ℕ, ◌<◌, ◌≤◌, Bool, true, false, ◌||◌, List, [], ◌∷◌, ◌++◌, length, reverse, Option, Some, None, IfSome, IsSomeAnd, refl, sym, ap, arith}
use Rattle.std.specs.Prelude.{◌==◌, ◌&&◌, not, filter, nat_le, is_some, if◌then◌else◌}
use Rattle.std.proofs.lemmas.Bool.Decides.{nat_tests}
use Rattle.vx_ends.specs.Observation.{Observation}
use Rattle.vx_condition.specs.Steps.{comes, ticks}
use Rattle.vx_record.specs.declared.entry.Entry.TheVariants.{Take, Tick, Answer}
use Rattle.vx_record.specs.Records.{Record}
use Rattle.vx_record.specs.Inputs.{Input, has_tick, is_tick, ticks_wait, unanswered}
use Rattle.vx_record.specs.Owing.{owes_answer, owes_birth, owes_discards, owes_spends_in, took_since}
use Rattle.vx_record.specs.Parcels.{parcel_event}
use Rattle.vx_record.specs.Turns.{lease_now}
use Rattle.vx_keeping.specs.Kept.{Kept}
use Rattle.vx_keeping.specs.Keeping.{taken_in}
use Rattle.vx_tasks.specs.Joining.{joins_at}
use Rattle.vx_moves.specs.declared.engine.EngineState.{EngineState}
use Rattle.vx_moves.specs.Keepers.{IsKept, keeper_at}
use Rattle.vx_moves.specs.Stands.{Stands}
use Rattle.vx_ready.specs.Asking.{IsSettled}
use Rattle.vx_ready.proofs.Knowing.{owes_none, state_there}
use Rattle.vx_ready.proofs.Working.{joins_transform}

-- no tick waits for its answer
pub unticked_at : {P : Type 0} {observe : P → Observation} {engine : EngineState P} (i : ℕ) → Stands observe engine → joins_at engine.log i ≡ true → ticks_wait engine.log i ≡ false
unticked_at {engine = engine} i stands joins = go (keeper_at engine.keepers.items i) (stands.keepers.whose i ∙ joins) (stands.keeps i)
  where
    go : (o : Option Kept) → is_some o ≡ true → IfSome o (λ k. IsKept k engine.log i) → ticks_wait engine.log i ≡ false
    go None some kept = cc
    go (Some k) some kept = kept.unticked

-- WHAT IT WAS GIVEN
-- a parcel that is taken, as an input
abbrev pub taken_as : Record → ℕ → List ℕ → Input
taken_as h i copies = record { step = comes (parcel_event h copies) (lease_now h i); copies = copies }

-- a tick, as an input
abbrev pub tick_at : ℕ → Input
tick_at now = record { step = ticks now; copies = [] }

-- where it took nothing since its last answer, and no tick waits, nothing is to be answered
pub given_none : (h : Record) (i : ℕ) → took_since h i ≡ false → ticks_wait h i ≡ false → unanswered h i ≡ []
given_none [] i none unticked = refl
given_none (Take j s copies ∷ h) i none unticked = go (j == i) none unticked (given_none h i)
  where
    go : (b : Bool) → (b || took_since h i) ≡ false → has_tick ((if b then taken_as h i copies ∷ [] else []) ++ unanswered h i) ≡ false →
        (took_since h i ≡ false → ticks_wait h i ≡ false → unanswered h i ≡ []) → ((if b then taken_as h i copies ∷ [] else []) ++ unanswered h i) ≡ []
    go true is wait before = cc
    go false is wait before = before is wait
given_none (Tick j now ∷ h) i none unticked = go (j == i) unticked (given_none h i none)
  where
    go : (b : Bool) → has_tick ((if b then tick_at now ∷ [] else []) ++ unanswered h i) ≡ false → (ticks_wait h i ≡ false → unanswered h i ≡ []) →
        ((if b then tick_at now ∷ [] else []) ++ unanswered h i) ≡ []
    go true wait before = cc
    go false wait before = before wait
given_none (Answer j outputs discarded kept ∷ h) i none unticked = go (j == i) none unticked (given_none h i)
  where
    go : (b : Bool) → (not b && took_since h i) ≡ false → has_tick (if b then [] else unanswered h i) ≡ false →
        (took_since h i ≡ false → ticks_wait h i ≡ false → unanswered h i ≡ []) → (if b then [] else unanswered h i) ≡ []
    go true is wait before = refl
    go false is wait before = before is wait
given_none (e ∷ h) i none unticked = given_none h i none unticked

-- UNLEASED
last_off : (a b c d : Bool) → (a || b || c || d) ≡ false → d ≡ false
last_off a b c false off = refl
last_off true b c true off = cc
last_off false true c true off = cc
last_off false false true true off = cc
last_off false false false true off = cc

-- one that merges, is unleased and owes nothing has answered all that it took
pub none_taken_there : {P : Type 0} (observe : P → Observation) (engine : EngineState P) (stands : Stands observe engine) (i : ℕ) → i < length engine.states → IsSettled engine i → joins_at engine.log i ≡ true →
    taken_in engine.log i ≡ []
none_taken_there observe engine stands i within settled joins =
    let h = engine.log in
    let there = state_there engine.states i within in
    let owed = last_off (owes_birth h i) (owes_spends_in h h i) (owes_discards h i) (owes_answer h i) (owes_none observe engine stands i there.0 there.1 settled) in
    let took : took_since h i ≡ false = ap (λ b. b && took_since h i) (sym (joins_transform h i joins)) ∙ owed in
    let none = given_none h i took (unticked_at i stands joins) in
    ap (λ (xs : List Input). reverse (filter (λ (x : Input). not (is_tick x.step)) xs)) none

-- a moment that isn't reached
pub not_reached : (o : Option ℕ) (moment now : ℕ) → o ≡ Some moment → nat_le moment now ≡ false → IsSomeAnd o (λ m. m ≤ now) → ⊥
not_reached None moment now is off reached = reached
not_reached (Some m) moment now is off reached = let same : m ≡ moment = cc in grind (arith, nat_tests, same, off, reached)
