-- Sums over the numbers below one.
use Rattle.std.proofs.Common.{◌≡◌, ℕ, zero, suc, ◌+◌, ◌*◌, ◌%◌, ◌<◌, ◌≤◌, List, [], ◌∷◌, length, refl, ap, subst, arith, inl, inr}
use Rattle.std.specs.Prelude.{if◌then◌else◌, ◌==◌, ◌&&◌, slice_index}
use Rattle.std.proofs.lemmas.Bool.Decides.{nat_tests}
use Rattle.std.proofs.lemmas.Bool.{cases_lt, cases_eq}
use Rattle.std.proofs.lemmas.Nat.{mod-mul-add}
use Rattle.vx_record.specs.Copies.{count}
use Rattle.vx_balance.specs.Live.{sum_below}

pub sum_same : (f g : ℕ → ℕ) (n : ℕ) → ((c : ℕ) → c < n → f c ≡ g c) → sum_below f n ≡ sum_below g n
sum_same f g zero same = refl
sum_same f g (suc n) same =
    let rest = sum_same f g n (λ c l. same c (omega (arith, l))) in
    let last = same n (omega arith) in
    omega (arith, rest, last)

pub sum_each : (f : ℕ → ℕ) (k n : ℕ) → ((c : ℕ) → c < n → f c ≡ k) → sum_below f n ≡ n * k
sum_each f k zero each = omega arith
sum_each f k (suc n) each =
    let rest = sum_each f k n (λ c l. each c (omega (arith, l))) in
    let last = each n (omega arith) in
    omega (arith, rest, last)

-- one number's share is no more than the whole
pub sum_share : (f : ℕ → ℕ) (c n : ℕ) → c < n → f c ≤ sum_below f n
sum_share f c zero l = absurd (omega arith)
sum_share f c (suc n) l =
    elim (cases_eq c n) [
      | inl same ↦ let e = ap f same in omega (arith, e)
      | inr other ↦ let rest = sum_share f c n (omega arith) in omega (arith, rest)
    ]

-- where the whole is something, one number's share is
pub sum_some : (f : ℕ → ℕ) (n : ℕ) → 0 < sum_below f n → (c : ℕ) × (c < n) × (0 < f c)
sum_some f zero some = absurd (omega arith)
sum_some f (suc n) some =
    elim (cases_lt 0 (f n)) [
      | inl here ↦ (n, omega arith, here)
      | inr none ↦ let rest = sum_some f n (omega arith) in (rest.0, (let l = rest.1 in omega arith), rest.2)
    ]

-- the sum over more numbers
pub sum_more : (f : ℕ → ℕ) (m n : ℕ) → sum_below f (m + n) ≡ sum_below f m + sum_below (λ j. f (m + j)) n
sum_more f m zero = let e : m + zero ≡ m = omega arith in rw e (omega arith)
sum_more f m (suc n) =
    let e : m + suc n ≡ suc (m + n) = omega arith in
    let rest = sum_more f m n in
    rw e (omega (arith, rest))

-- the first number's share apart
pub sum_front : (f : ℕ → ℕ) (n : ℕ) → sum_below f (suc n) ≡ f 0 + sum_below (λ j. f (suc j)) n
sum_front f zero = omega arith
sum_front f (suc n) = let rest = sum_front f n in omega (arith, rest)

-- where the share of one number falls
pub sum_point : (f g : ℕ → ℕ) (x d n : ℕ) → x < n → f x + d ≡ g x → ((c : ℕ) → (x ≡ c → ⊥) → f c ≡ g c) →
    sum_below f n + d ≡ sum_below g n
sum_point f g x d zero l at others = absurd (omega arith)
sum_point f g x d (suc n) l at others =
    elim (cases_eq x n) [
      | inl same ↦
          let rest = sum_same f g n (λ c m. others c (λ e. absurd (omega (arith, e, m, same)))) in
          let here : f n + d ≡ g n = subst (λ k. f k + d ≡ g k) same at in
          omega (arith, rest, here)
      | inr other ↦
          let rest = sum_point f g x d n (omega arith) at others in
          let last = others n other in
          omega (arith, rest, last)
    ]

-- k rounds of m shares
pub sum_rounds : (g : ℕ → ℕ) (k m : ℕ) → sum_below (λ j. g (j % m)) (k * m) ≡ k * sum_below g m
sum_rounds g zero m = let e : 0 * m ≡ 0 = omega arith in rw e (omega arith)
sum_rounds g (suc k) m =
    let e : suc k * m ≡ k * m + m = omega arith in
    let rest = sum_rounds g k m in
    let more = sum_more (λ j. g (j % m)) (k * m) m in
    let last : sum_below (λ j. g ((k * m + j) % m)) m ≡ sum_below g m = sum_same (λ j. g ((k * m + j) % m)) g m (λ j l. ap g (mod-mul-add k m j l)) in
    rw e (omega (arith, rest, more, last))

-- how many of some numbers have a batch
abbrev pub of_batch : (ℕ → ℕ) → ℕ → List ℕ → ℕ
of_batch batch b [] = 0
of_batch batch b (x ∷ xs) = (if batch x == b then 1 else 0) + of_batch batch b xs

pub sum_list : (batch : ℕ → ℕ) (b : ℕ) (xs : List ℕ) → sum_below (λ j. if batch (slice_index xs j) == b then 1 else 0) (length xs) ≡ of_batch batch b xs
sum_list batch b [] = refl
sum_list batch b (x ∷ xs) =
    let rest = sum_list batch b xs in
    let front = sum_front (λ j. if batch (slice_index (x ∷ xs) j) == b then 1 else 0) (length xs) in
    omega (arith, rest, front)

-- 1 where a number has the batch, and neither ended before nor is among those that end
abbrev pub left_in : (ℕ → ℕ) → (ℕ → ℕ) → ℕ → List ℕ → ℕ → ℕ
left_in batch ended b xs c = if (batch c == b) && (ended c + count c xs == 0) then 1 else 0

ends_here : (t u v b x : ℕ) → t ≡ 0 → u ≡ 0 → v ≡ 1 + u → (if (b == x) && (t + v == 0) then 1 else 0) + (if b == x then 1 else 0) ≡ (if (b == x) && (t + u == 0) then 1 else 0)
ends_here t u v b x t0 u0 v1 = grind (arith, nat_tests, t0, u0, v1)

-- some numbers end, each of them once
pub sum_ended : (batch ended : ℕ → ℕ) (b n : ℕ) (xs : List ℕ) → ((c : ℕ) → 0 < count c xs → (c < n) × (ended c ≡ 0)) → ((c : ℕ) → count c xs ≤ 1) →
    sum_below (left_in batch ended b xs) n + of_batch batch b xs ≡ sum_below (left_in batch ended b []) n
sum_ended batch ended b n [] whole once = omega arith
sum_ended batch ended b n (x ∷ xs) whole once =
    let here : count x (x ∷ xs) ≡ 1 + count x xs = first x (count x xs) in
    let alone = once x in
    let was = whole x (omega (arith, here)) in
    let rest = sum_ended batch ended b n xs (λ c l. whole c (more c l)) (λ c. let o = once c in omega (arith, o)) in
    let point = sum_point (left_in batch ended b (x ∷ xs)) (left_in batch ended b xs) x (if batch x == b then 1 else 0) n was.0
    (ends_here (ended x) (count x xs) (count x (x ∷ xs)) (batch x) b was.1 (omega (arith, here, alone)) here)
    (λ c other. ap (λ k. if (batch c == b) && (ended c + k == 0) then 1 else 0) (skip c other)) in
    omega (arith, rest, point)
  where
    first : (y k : ℕ) → (if y == y then 1 else 0) + k ≡ 1 + k
    first y k = grind (arith, nat_tests)

    more : (c : ℕ) → 0 < count c xs → 0 < count c (x ∷ xs)
    more c l = omega (arith, l)

    skip : (c : ℕ) → (x ≡ c → ⊥) → count c (x ∷ xs) ≡ count c xs
    skip c other = grind (arith, nat_tests, other)
