-- The soonest of the moments for which instances wait.
use Rattle.std.proofs.Common.{◌≡◌, ◌∙◌, ◌⊎◌, ℕ, zero, suc, ◌+◌, true, ◌<◌, ◌≤◌, length, Option, Some, None, IfSome, inl, inr, sym, subst, arith}
use Rattle.std.specs.Prelude.{min, IsSomeAnd}
use Rattle.std.proofs.lemmas.Bool.{cases_eq}
use Rattle.vx_record.specs.Ready.{IsTickReady, waits_until}
use Rattle.vx_tasks.specs.Joining.{joins_at}
use Rattle.vx_moves.specs.declared.engine.EngineState.{EngineState}
use Rattle.vx_ready.specs.Asking.{IsSettled, IsOpen}
use Rattle.vx_hub.specs.Waiting.{WaitsAt, SomeoneWaits, SomeoneChecks, IsSoonest, sooner}

-- of those below a number and of one more
below_or : (F : ℕ → Type 0) (n i : ℕ) → i < n + 1 → ((i < n) → F i) → F n → F i
below_or F n i l below here = elim (cases_eq i n) [
  | inl same ↦ subst F (sym same) here
  | inr other ↦ below (omega (arith, l, other))
]

-- the sooner of two moments is one of them, and is no later than either
which : (a b : ℕ) → (a ≤ b) ⊎ (b ≤ a)
which zero b = inl (omega arith)
which (suc a) zero = inr (omega arith)
which (suc a) (suc b) = elim (which a b) [ inl l ↦ inl (omega (arith, l)) | inr l ↦ inr (omega (arith, l)) ]

one_of : (x y : ℕ) → (min x y ≡ x) ⊎ (min x y ≡ y)
one_of x y = elim (which x y) [ inl l ↦ inl (omega (arith, l)) | inr l ↦ inr (omega (arith, l)) ]

-- what was found of an instance
pub record IsWaitOf {P : Type 0} (engine : EngineState P) (i : ℕ) (found : Option ℕ) : Type 0 where
  pub waits : IsSettled engine i → IsOpen engine i → found ≡ waits_until engine.log i
  pub settled : IfSome found (λ moment. IsSettled engine i)
  pub open_at : IfSome found (λ moment. IsOpen engine i)

module _ {P : Type 0} (engine : EngineState P) where
  waits_at : (i m : ℕ) → IsWaitOf engine i (Some m) → WaitsAt engine i m
  waits_at i m found = record { settled = found.settled; open_at = found.open_at; until = sym (found.waits found.settled found.open_at) }

  one_moment : (i m moment : ℕ) → IsWaitOf engine i (Some m) → WaitsAt engine i moment → m ≡ moment
  one_moment i m moment found waits = let same = found.waits waits.settled waits.open_at ∙ waits.until in cc

  no_moment : (i moment : ℕ) → IsWaitOf engine i None → WaitsAt engine i moment → ⊥
  no_moment i moment found waits = let same = found.waits waits.settled waits.open_at ∙ waits.until in cc

  pub one_more : (n : ℕ) → n < length engine.states → (soonest found : Option ℕ) → IsSoonest engine n soonest → IsWaitOf engine n found → IsSoonest engine (n + 1) (sooner soonest found)
  one_more n within None None none found = λ i moment l waits.
      below_or (λ j. WaitsAt engine j moment → ⊥) n i l (λ less. none i moment less) (λ here. no_moment n moment found here) waits
  one_more n within None (Some m) none found = (
    record { who = n; within = within; waits = waits_at n m found },
    λ i moment l waits. below_or (λ j. WaitsAt engine j moment → m ≤ moment) n i l (λ less here. absurd (none i moment less here))
        (λ here. let same = one_moment n m moment found here in omega (arith, same)) waits,
  )
  one_more n within (Some x) None some found = (
    some.0,
    λ i moment l waits. below_or (λ j. WaitsAt engine j moment → x ≤ moment) n i l (λ less here. some.1 i moment less here)
        (λ here. absurd (no_moment n moment found here)) waits,
  )
  one_more n within (Some x) (Some m) some found = (
    elim (one_of x m) [
      | inl same ↦ subst (λ (s : ℕ). SomeoneWaits engine s) (sym same) some.0
      | inr same ↦ subst (λ (s : ℕ). SomeoneWaits engine s) (sym same) (record { who = n; within = within; waits = waits_at n m found })
    ],
    λ i moment l waits. below_or (λ j. WaitsAt engine j moment → min x m ≤ moment) n i l (λ less here. let later = some.1 i moment less here in omega (arith, later))
        (λ here. let same = one_moment n m moment found here in omega (arith, same)) waits,
  )

  -- what one that merges tells of itself
  pub check_of : (i : ℕ) → i < length engine.states → (found : Option ℕ) → IfSome found (λ moment. (now : ℕ) → moment ≤ now → IsTickReady engine.log i now) →
      IfSome found (λ moment. joins_at engine.log i ≡ true) → IfSome found (SomeoneChecks engine)
  check_of i within None due joins = tt
  check_of i within (Some m) due joins = record { who = i; within = within; joins = joins; due = due }

  -- and one more
  pub check_more : (soonest found : Option ℕ) → IfSome soonest (SomeoneChecks engine) → IfSome found (SomeoneChecks engine) → IfSome (sooner soonest found) (SomeoneChecks engine)
  check_more None found some more = more
  check_more (Some x) None some more = some
  check_more (Some x) (Some m) some more = elim (one_of x m) [
    | inl same ↦ subst (λ (s : ℕ). SomeoneChecks engine s) (sym same) some
    | inr same ↦ subst (λ (s : ℕ). SomeoneChecks engine s) (sym same) more
  ]

-- what is reached by one of two moments is reached by the sooner one
pub by_first : (a b : Option ℕ) (now : ℕ) → IsSomeAnd a (λ m. m ≤ now) → IsSomeAnd (sooner a b) (λ m. m ≤ now)
by_first None b now is = absurd is
by_first (Some x) None now is = is
by_first (Some x) (Some y) now is = omega (arith, is)

pub by_second : (a b : Option ℕ) (now : ℕ) → IsSomeAnd b (λ m. m ≤ now) → IsSomeAnd (sooner a b) (λ m. m ≤ now)
by_second None b now is = is
by_second (Some x) None now is = absurd is
by_second (Some x) (Some y) now is = omega (arith, is)
