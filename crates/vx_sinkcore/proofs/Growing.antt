-- How waits grow: as the numbers of Fibonacci, times the first wait.
use Rattle.std.proofs.Common.{◌≡◌, ℕ, zero, suc, ◌+◌, ◌-◌, ◌*◌, ◌≤◌, ap, ◌∙◌, arith}
use Rattle.vx_sinkcore.specs.Waits.{fibonacci_from, fibonacci}

-- two numbers that are so many times as high lead to one that is so many times as high
pub fibonacci_from-times : (c a b low high k : ℕ) → low ≡ c * a → high ≡ c * b → fibonacci_from low high k ≡ c * fibonacci_from a b k
fibonacci_from-times c a b low high zero low_is high_is = low_is
fibonacci_from-times c a b low high (suc k) low_is high_is =
    fibonacci_from-times c b (a + b) high (low + high) k high_is (omega (arith, low_is, high_is))

-- from two numbers on that don't fall, none falls below the first
pub le-fibonacci_from : (a b k : ℕ) → a ≤ b → a ≤ fibonacci_from a b k
le-fibonacci_from a b zero rises = omega arith
le-fibonacci_from a b (suc k) rises = omega (arith, rises, le-fibonacci_from b (a + b) k (omega arith))

-- behind some of k steps: a wait and the next one, which lead to the k-th
pub record IsUnderway (first k steps wait next : ℕ) : Type 0 where
  pub leads : (left : ℕ) → steps + left ≡ k → fibonacci_from wait next left ≡ first * fibonacci k
  pub rises : wait ≤ next
  pub bound : next ≤ 2 * wait + first

-- before the first step
pub underway_first : (first k : ℕ) → IsUnderway first k 0 0 first
underway_first first k = record {
  leads = λ left all.
      let same : left ≡ k = omega arith in
      ap (fibonacci_from 0 first) same ∙ fibonacci_from-times first 0 1 0 first k (omega arith) (omega arith);
  rises = omega arith;
  bound = omega arith;
}

-- a step on
pub underway_next : (first k steps wait next : ℕ) → IsUnderway first k steps wait next → IsUnderway first k (steps + 1) next (wait + next)
underway_next first k steps wait next so_far = record {
  leads = λ left all. so_far.leads (suc left) (omega arith);
  rises = omega arith;
  bound = omega (arith, so_far.rises);
}

-- behind the last step the wait is the k-th
pub underway_last : (first k steps wait next : ℕ) → IsUnderway first k steps wait next → steps ≡ k → wait ≡ first * fibonacci k
underway_last first k steps wait next so_far all = so_far.leads 0 (omega arith)

-- no later wait is shorter
pub underway_rises : (first k steps wait next : ℕ) → IsUnderway first k steps wait next → steps ≤ k → wait ≤ first * fibonacci k
underway_rises first k steps wait next so_far within =
    omega (arith, le-fibonacci_from wait next (k - steps) so_far.rises, so_far.leads (k - steps) (omega arith))

-- where the next wait is none, so is the k-th
pub underway_none : (first k steps wait next : ℕ) → IsUnderway first k steps wait next → steps ≤ k → next ≡ 0 → first * fibonacci k ≡ 0
underway_none first k steps wait next so_far within none =
    let nothing : fibonacci_from wait next (k - steps) ≡ 0 * fibonacci (k - steps) =
    fibonacci_from-times 0 0 1 wait next (k - steps) (omega (arith, so_far.rises)) none in
    omega (arith, nothing, so_far.leads (k - steps) (omega arith))
