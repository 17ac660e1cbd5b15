-- What is known of the states behind the steps of a landing, and what those leave of the engine's state.
use Rattle.std.proofs.Common.{◌≡◌, ◌≢◌, ◌∙◌, ℕ, true, false, List, length, Option, Some, None, IfSome, IsSomeAnd, refl, sym, inl, inr}
use Rattle.std.specs.Prelude.{◌==◌, slice_get}
use Rattle.std.proofs.lemmas.Bool.{cases_eq, ne_eqb}
use Rattle.vx_places.specs.Capacities.{SameCapacities}
use Rattle.vx_tasks.specs.declared.task.Task.{Task}
use Rattle.vx_instances.specs.declared.state.InstanceState.{InstanceState}
use Rattle.vx_instances.specs.Staying.{EachState, OneState, SameFlags, Stays}
use Rattle.vx_moves.specs.declared.engine.EngineState.{EngineState}
use Rattle.vx_moves.specs.Leaving.{Leaves}
use Rattle.vx_moves.proofs.Leaving.{capacities_both}
use Rattle.vx_landing.specs.Landings.{HasTask, OthersStay, LandsOn, Owes, IsOwingNow}
use Rattle.vx_landing.specs.Standing.{IsWellAt, IsFedAt}

-- another number
pub not_same : (i j : ℕ) → j ≢ i → (i == j) ≡ false
not_same i j other = ne_eqb i j (λ same. other (sym same))

-- WHAT WAS AND WHAT IS
-- one that is stands to the one that was
abbrev pub Beside : {A : Type 0} → (A → A → Type 0) → Option A → Option A → Type 0
Beside R o n = IfSome n (λ is. IsSomeAnd o (λ was. R was is))

-- so it does where there are both
pub both_are : {A : Type 0} (R : A → A → Type 0) (o n : Option A) → IsSomeAnd o (λ was. IsSomeAnd n (λ is. R was is)) → Beside R o n
both_are R None n both = absurd both
both_are R (Some was) None both = tt
both_are R (Some was) (Some is) both = both

-- so it does otherwise
pub beside : {A : Type 0} (R S : A → A → Type 0) (o n : Option A) → ((was is : A) → R was is → S was is) → Beside R o n → Beside S o n
beside R S o None leads stands = tt
beside R S None (Some is) leads stands = absurd stands
beside R S (Some was) (Some is) leads stands = leads was is stands

-- what is said of the one that was leads to what is said of the one that is
pub carried : {A : Type 0} (R : A → A → Type 0) (F G : A → Type 0) (o n : Option A) → Beside R o n → IfSome o F → ((was is : A) → R was is → F was → G is) →
    IfSome n G
carried R F G o None stands said leads = tt
carried R F G None (Some is) stands said leads = absurd stands
carried R F G (Some was) (Some is) stands said leads = leads was is stands said

-- two things that are said of one lead to a third
pub both_said : {A : Type 0} (F G H : A → Type 0) (o : Option A) → IfSome o F → IfSome o G → ((x : A) → F x → G x → H x) → IfSome o H
both_said F G H None first second leads = tt
both_said F G H (Some x) first second leads = leads x first second

-- what is well stays so
pub well_stays : {P : Type 0} (o n : Option (InstanceState P)) → IfSome n (λ is. IsSomeAnd o (λ was. Stays was is)) → IfSome o IsWellAt → IfSome n IsWellAt
well_stays o n stays well =
    carried Stays IsWellAt IsWellAt o n stays well (λ was is so known. record { settled = so.flags.owing ∙ known.settled; counted = so.flags.behind ∙ known.counted; fed = so.flags.starved ∙ known.fed })

-- what an instance owes, or what its port gave, isn't known any more
abbrev pub NowOwes : {P : Type 0} → InstanceState P → InstanceState P → Type 0
NowOwes was is = is ≡ record was { facts = record was.facts { owing = true } }

abbrev pub NowStarves : {P : Type 0} → InstanceState P → InstanceState P → Type 0
NowStarves was is = is ≡ record was { facts = record was.facts { starved = true } }

-- its task is unleased
abbrev pub NowHas : {P : Type 0} → Task P → InstanceState P → InstanceState P → Type 0
NowHas task was is = is ≡ record was { task = Some task }

module _ {P : Type 0} where
  -- WHAT ISN'T KNOWN
  pub flags_here : (o : Option (InstanceState P)) → Beside SameFlags o o
  flags_here None = tt
  flags_here (Some state) = record { owing = refl; behind = refl; starved = refl }

  pub flags_both : (x y z : Option (InstanceState P)) → Beside SameFlags x y → Beside SameFlags y z → Beside SameFlags x z
  flags_both x y None first second = tt
  flags_both x None (Some z) first second = absurd second
  flags_both None (Some y) (Some z) first second = absurd first
  flags_both (Some x) (Some y) (Some z) first second =
      record { owing = second.owing ∙ first.owing; behind = second.behind ∙ first.behind; starved = second.starved ∙ first.starved }

  pub each_flags : (old new : List (InstanceState P)) → EachState Stays old new → EachState SameFlags old new
  each_flags old new each j = beside Stays SameFlags (slice_get old j) (slice_get new j) (λ was is stays. stays.flags) (each j)

  pub flags_then : (a b c : List (InstanceState P)) → EachState SameFlags a b → EachState SameFlags b c → EachState SameFlags a c
  flags_then a b c first second j = flags_both (slice_get a j) (slice_get b j) (slice_get c j) (first j) (second j)

  -- OF THE OTHERS
  pub others_one : (F : InstanceState P → InstanceState P → Type 0) (i : ℕ) (old new : List (InstanceState P)) → OneState F i old new → OthersStay i old new
  others_one F i old new one j other = rw (one.others j other) (flags_here (slice_get old j))

  -- OF ONE
  pub carried_one : {R : InstanceState P → InstanceState P → Type 0} {i : ℕ} {old new : List (InstanceState P)} (F G : InstanceState P → Type 0) → OneState R i old new →
      IfSome (slice_get old i) F → ((was is : InstanceState P) → R was is → F was → G is) → IfSome (slice_get new i) G
  carried_one {R} {i} {old} {new} F G one = carried R F G (slice_get old i) (slice_get new i) (both_are R (slice_get old i) (slice_get new i) one.one)

  pub well_on : (i : ℕ) {old new : EngineState P} → Leaves old new → IfSome (slice_get old.states i) IsWellAt → IfSome (slice_get new.states i) IsWellAt
  well_on i {old} {new} leaves = well_stays (slice_get old.states i) (slice_get new.states i) (leaves.states i)

  pub fed_well : (o : Option (InstanceState P)) → IfSome o IsWellAt → IfSome o IsFedAt
  fed_well None well = tt
  fed_well (Some state) well = record { counted = well.counted; fed = well.fed }

  -- what one owes isn't known any more
  owes_from : (x y z : Option (InstanceState P)) → Beside Stays x y → IsSomeAnd y (λ was. IsSomeAnd z (λ is. NowOwes was is)) →
      IsSomeAnd x (λ was. IsSomeAnd z (λ is. Owes was is))
  owes_from x None z stays marks = absurd marks
  owes_from x (Some y) None stays marks = absurd marks
  owes_from None (Some y) (Some z) stays marks = absurd stays
  owes_from (Some x) (Some y) (Some z) stays marks = rw marks (record { owing = refl; counted = stays.flags.behind; fed = stays.flags.starved })

  pub owing_now : (i : ℕ) (a b c : List (InstanceState P)) → EachState Stays a b → OneState NowOwes i b c → IsOwingNow i a c
  owing_now i a b c each one = record {
    one = owes_from (slice_get a i) (slice_get b i) (slice_get c i) (each i) one.one;
    others = λ j other. flags_both (slice_get a j) (slice_get b j) (slice_get c j) (each_flags a b each j) (others_one NowOwes i b c one j other);
  }

  -- with its task back a state has the same of what isn't known
  pub flags_returned : (i : ℕ) (task : Task P) (old new : List (InstanceState P)) → OneState (NowHas task) i old new → EachState SameFlags old new
  flags_returned i task old new back j = elim (cases_eq j i) [
    | inl same ↦ rw same (beside (NowHas task) SameFlags (slice_get old i) (slice_get new i) (λ was is has. rw has (record { owing = refl; behind = refl; starved = refl }))
        (both_are (NowHas task) (slice_get old i) (slice_get new i) back.one))
    | inr other ↦ others_one (NowHas task) i old new back j other
  ]

  has_back : (task : Task P) (o n : Option (InstanceState P)) → IsSomeAnd o (λ was. IsSomeAnd n (λ is. NowHas task was is)) → IsSomeAnd n (λ state. state.task ≡ Some task)
  has_back task None n has = absurd has
  has_back task (Some was) None has = has
  has_back task (Some was) (Some is) has = rw has refl

  pub has_task : (i : ℕ) (task : Task P) (old new : List (InstanceState P)) → OneState (NowHas task) i old new → HasTask new i task
  has_task i task old new back = has_back task (slice_get old i) (slice_get new i) back.one

-- WHAT STEPS LEAVE
-- of all but one instance what isn't known any more, the capacities, and the run
pub record LeavesBe {P : Type 0} (i : ℕ) (old new : EngineState P) : Type 0 where
  pub size : length new.states ≡ length old.states
  pub capacities : SameCapacities old.places new.places
  pub run : new.run ≡ old.run
  pub others : OthersStay i old.states new.states

module _ {P : Type 0} {i : ℕ} where
  pub be_here : {engine : EngineState P} → LeavesBe i engine engine
  be_here {engine} = record { size = refl; capacities = λ j. (refl, refl); run = refl; others = λ j other. flags_here (slice_get engine.states j) }

  pub be_stays : {old new : EngineState P} → Leaves old new → length new.states ≡ length old.states → LeavesBe i old new
  be_stays {old} {new} leaves size = record { size = size; capacities = leaves.capacities; run = leaves.run; others = λ j other. each_flags old.states new.states leaves.states j }

  pub others_both : (a b c : List (InstanceState P)) → OthersStay i a b → OthersStay i b c → OthersStay i a c
  others_both a b c first second j other = flags_both (slice_get a j) (slice_get b j) (slice_get c j) (first j other) (second j other)

  pub be_both : {a b c : EngineState P} → LeavesBe i a b → LeavesBe i b c → LeavesBe i a c
  be_both {a} {b} {c} first second = record {
    size = second.size ∙ first.size;
    capacities = capacities_both a.places b.places c.places first.capacities second.capacities;
    run = second.run ∙ first.run;
    others = others_both a.states b.states c.states first.others second.others;
  }

  -- where what an instance counts and what its port gave is known, they leave what a landing does
  pub lands : {old new : EngineState P} → LeavesBe i old new → IfSome (slice_get new.states i) IsFedAt → LandsOn i old new
  lands be fed = record { size = be.size; capacities = be.capacities; run = rw be.run refl; short = λ was. rw be.run was; others = be.others; fed = λ known. fed }
