-- Tests of all instances.
use Rattle.std.proofs.Common.{◌≡◌, ◌∙◌, ℕ, zero, suc, ◌+◌, ◌<◌, ◌≤◌, Bool, true, false, ◌||◌, List, [], ◌∷◌, ◌++◌, length, Some, inl, inr, refl, sym, ap, arith}
use Rattle.std.specs.Prelude.{◌==◌, if◌then◌else◌, map, filter, nat_lt}
use Rattle.std.specs.List.{list_any, list_all}
use Rattle.std.proofs.lemmas.Bool.{cases_eq, and_from as both, and_left as first_off, and_right as second_off, or_left as first_on, or_right as second_on, or_from as neither}
use Rattle.std.proofs.lemmas.Bool.Decides.{nat_tests}
use Rattle.std.proofs.lemmas.List.{append-nil}
use Rattle.vx_plan.specs.declared.component.Component.{Component}
use Rattle.vx_plan.specs.declared.plan.Plan.{Plan}
use Rattle.vx_record.specs.Records.{Record}
use Rattle.vx_record.specs.declared.entry.Entry.TheVariants.{Install}
use Rattle.vx_record.specs.declared.instance.Instance.{Instance}
use Rattle.vx_record.specs.Copies.{count, contains, counting}
use Rattle.vx_record.specs.Installs.{in_force, is_new, started}
use Rattle.vx_record.specs.Legal.{IsLegal}
use Rattle.vx_record.specs.Starting.{first_instances}

-- NUMBERS FROM ONE ON
any_from : (test : ℕ → Bool) (from n : ℕ) → ((j : ℕ) → from ≤ j → j < from + n → test j ≡ false) → list_any test (counting from n) ≡ false
any_from test from zero none = refl
any_from test from (suc n) none =
    neither (test from) (list_any test (counting (from + 1) n)) (none from (omega arith) (omega arith)) (any_from test (from + 1) n (λ j l u. none j (omega (arith, l)) (omega (arith, u))))

all_from : (test : ℕ → Bool) (from n : ℕ) → ((j : ℕ) → from ≤ j → j < from + n → test j ≡ true) → list_all test (counting from n) ≡ true
all_from test from zero all = refl
all_from test from (suc n) all =
    both (test from) (list_all test (counting (from + 1) n)) (all from (omega arith) (omega arith)) (all_from test (from + 1) n (λ j l u. all j (omega (arith, l)) (omega (arith, u))))

some_from : (test : ℕ → Bool) (from n k : ℕ) → from ≤ k → k < from + n → test k ≡ true → list_any test (counting from n) ≡ true
some_from test from zero k l u on = absurd (omega (arith, l, u))
some_from test from (suc n) k l u on = elim (cases_eq k from) [
  | inl same ↦ first_on (test from) (list_any test (counting (from + 1) n)) (ap test (sym same) ∙ on)
  | inr other ↦ second_on (test from) (list_any test (counting (from + 1) n)) (some_from test (from + 1) n k (omega (arith, l, other)) (omega (arith, u)) on)
]

fails_from : (test : ℕ → Bool) (from n k : ℕ) → from ≤ k → k < from + n → test k ≡ false → list_all test (counting from n) ≡ false
fails_from test from zero k l u off = absurd (omega (arith, l, u))
fails_from test from (suc n) k l u off = elim (cases_eq k from) [
  | inl same ↦ first_off (test from) (list_all test (counting (from + 1) n)) (ap test (sym same) ∙ off)
  | inr other ↦ second_off (test from) (list_all test (counting (from + 1) n)) (fails_from test (from + 1) n k (omega (arith, l, other)) (omega (arith, u)) off)
]

pub counted : (from n : ℕ) → length (counting from n) ≡ n
counted from zero = refl
counted from (suc n) = ap suc (counted (from + 1) n)

-- a number is among some where one of them is it
pub any_contains : (xs : List ℕ) (i : ℕ) → list_any (λ x. x == i) xs ≡ contains xs i
any_contains [] i = refl
any_contains (x ∷ xs) i = go (x == i) (any_contains xs i)
  where
    go : (b : Bool) → list_any (λ y. y == i) xs ≡ contains xs i → (b || list_any (λ y. y == i) xs) ≡ nat_lt 0 ((if b then 1 else 0) + count i xs)
    go true later = grind (arith, nat_tests)
    go false later = let same : count i xs ≡ 0 + count i xs = omega arith in later ∙ ap (λ n. nat_lt 0 n) same

-- INSTANCES
-- they are numbered as the components
numbers_first : (from : ℕ) (components : List Component) → map (λ (instance : Instance). instance.number) (filter is_new (first_instances from components)) ≡ counting from (length components)
numbers_first from [] = refl
numbers_first from (c ∷ rest) = ap (λ ns. from ∷ ns) (numbers_first (from + 1) rest)

started_so : (h : Record) (plan : Plan) → IsLegal h → in_force h ≡ Some plan → started h ≡ counting 0 (length plan.components)
started_so [] plan legal force = cc
started_so (Install version made once instances now ∷ h) plan legal force =
    let same : made ≡ plan = cc in
    let row = legal.0.row in
    ap (λ (k : Record). started k ++ map (λ (instance : Instance). instance.number) (filter is_new instances)) row.first
    ∙ ap (λ (is : List Instance). map (λ (instance : Instance). instance.number) (filter is_new is)) row.all_new
    ∙ numbers_first 0 made.components ∙ ap (λ (p : Plan). counting 0 (length p.components)) same
started_so (e ∷ h) plan legal force = append-nil (started h) ∙ started_so h plan legal.1 force

-- and as many as were started
pub started_are : (h : Record) (plan : Plan) (n : ℕ) → IsLegal h → in_force h ≡ Some plan → n ≡ length (started h) → started h ≡ counting 0 n
started_are h plan n legal force size =
    let all = started_so h plan legal force in
    let same : n ≡ length plan.components = size ∙ ap length all ∙ counted 0 (length plan.components) in
    all ∙ ap (counting 0) (sym same)

module _ (h : Record) (plan : Plan) (n : ℕ) (legal : IsLegal h) (force : in_force h ≡ Some plan) (size : n ≡ length (started h)) (test : ℕ → Bool) where
  pub none_started : ((j : ℕ) → j < n → test j ≡ false) → list_any test (started h) ≡ false
  none_started none = ap (list_any test) (started_are h plan n legal force size) ∙ any_from test 0 n (λ j l u. none j (omega (arith, u)))

  pub some_started : (k : ℕ) → k < n → test k ≡ true → list_any test (started h) ≡ true
  some_started k below on = ap (list_any test) (started_are h plan n legal force size) ∙ some_from test 0 n k (omega arith) (omega (arith, below)) on

  pub all_started : ((j : ℕ) → j < n → test j ≡ true) → list_all test (started h) ≡ true
  all_started all = ap (list_all test) (started_are h plan n legal force size) ∙ all_from test 0 n (λ j l u. all j (omega (arith, u)))

  pub fails_started : (k : ℕ) → k < n → test k ≡ false → list_all test (started h) ≡ false
  fails_started k below off = ap (list_all test) (started_are h plan n legal force size) ∙ fails_from test 0 n k (omega arith) (omega (arith, below)) off

-- what holds of each number below one, and of that
pub one_further : (test : ℕ → Bool) (b : Bool) (n : ℕ) → ((k : ℕ) → k < n → test k ≡ b) → test n ≡ b → (k : ℕ) → k < n + 1 → test k ≡ b
one_further test b n below here k l = elim (cases_eq k n) [
  | inl same ↦ ap test same ∙ here
  | inr other ↦ below k (omega (arith, l, other))
]
