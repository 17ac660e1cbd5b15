-- How long a sink waits between its failed attempts.
use Rattle.std.specs.Prelude.{ℕ, zero, suc, ◌+◌, ◌*◌, min}

-- the k-th of the numbers of Fibonacci, from two that follow one another on
abbrev pub fibonacci_from : ℕ → ℕ → ℕ → ℕ
fibonacci_from a b zero = a
fibonacci_from a b (suc k) = fibonacci_from b (a + b) k

-- the numbers of Fibonacci, from 0, 1, 1, 2 on
abbrev pub fibonacci : ℕ → ℕ
fibonacci = fibonacci_from 0 1

-- the wait between the k-th failed attempt, counted from 1, and the next: the first wait as many times as the k-th number of Fibonacci says, held to the greatest
abbrev pub wait_after : ℕ → ℕ → ℕ → ℕ
wait_after first greatest k = min greatest (first * fibonacci k)
