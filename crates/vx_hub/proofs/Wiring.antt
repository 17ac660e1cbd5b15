-- An outlet is wired port by port.
use Rattle.std.proofs.Common.{◌≡◌, ◌∙◌, ℕ, zero, suc, ◌+◌, ◌-◌, ◌<◌, List, [], ◌∷◌, ◌++◌, length, slice_set, refl, sym, ap, arith}
use Rattle.std.specs.Prelude.{map, replicate}
use Rattle.std.proofs.lemmas.List.{append-nil, length-append, length-map}
use Rattle.vx_record.specs.Copies.{counting}
use Rattle.vx_ready.proofs.Counting.{counted}

-- the first ports are wired, and the others go nowhere
abbrev pub wired_to : (ℕ → List ℕ) → ℕ → ℕ → List (List ℕ)
wired_to f n port = map f (counting 0 port) ++ replicate (n - port) []

counting_last : (from n : ℕ) → counting from (suc n) ≡ counting from n ++ (from + n) ∷ []
counting_last from zero = let same : from ≡ from + 0 = omega arith in ap (λ (m : ℕ). m ∷ []) same
counting_last from (suc n) =
    let same : from + 1 + n ≡ from + suc n = omega arith in
    ap (λ (ns : List ℕ). from ∷ ns) (counting_last (from + 1) n ∙ ap (λ (m : ℕ). counting (from + 1) n ++ m ∷ []) same)

mapped_on : {X Y : Type 0} (f : X → Y) (xs : List X) (x : X) → map f (xs ++ x ∷ []) ≡ map f xs ++ f x ∷ []
mapped_on f [] x = refl
mapped_on f (y ∷ ys) x = ap (λ zs. f y ∷ zs) (mapped_on f ys x)

set_behind : {X : Type 0} (xs : List X) (y z : X) (ys : List X) → slice_set (xs ++ y ∷ ys) (length xs) z ≡ (xs ++ z ∷ []) ++ ys
set_behind [] y z ys = refl
set_behind (x ∷ xs) y z ys = ap (λ zs. x ∷ zs) (set_behind xs y z ys)

abbrev replicate_nowhere : ℕ → List (List ℕ)
replicate_nowhere m = replicate m []

module _ (f : ℕ → List ℕ) (n : ℕ) where
  long : (port : ℕ) → length (map f (counting 0 port)) ≡ port
  long port = length-map (counting 0 port) f ∙ counted 0 port

  pub none_wired : replicate n [] ≡ wired_to f n 0
  none_wired = let same : n ≡ n - 0 = omega arith in ap (λ (m : ℕ). replicate m []) same

  pub one_wired : (port : ℕ) → port < n → slice_set (wired_to f n port) port (f port) ≡ wired_to f n (port + 1)
  one_wired port below =
      let left : n - port ≡ suc (n - (port + 1)) = omega (arith, below) in
      let next : port + 1 ≡ suc port = omega arith in
      let here : port ≡ 0 + port = omega arith in
      ap (λ (m : ℕ). slice_set (map f (counting 0 port) ++ replicate m []) port (f port)) left
      ∙ ap (λ (k : ℕ). slice_set (map f (counting 0 port) ++ [] ∷ replicate (n - (port + 1)) []) k (f port)) (sym (long port))
      ∙ set_behind (map f (counting 0 port)) [] (f port) (replicate (n - (port + 1)) [])
      ∙ ap (λ (ls : List (List ℕ)). ls ++ replicate (n - (port + 1)) []) (sym (mapped_on f (counting 0 port) port) ∙ ap (λ (m : ℕ). map f (counting 0 port ++ m ∷ [])) here ∙ ap (map f) (sym (counting_last 0 port)) ∙ ap (λ (k : ℕ). map f (counting 0 k)) (sym next))

  pub all_wired : (port : ℕ) → port ≡ n → wired_to f n port ≡ map f (counting 0 n)
  all_wired port same =
      let none : n - port ≡ 0 = omega (arith, same) in
      ap (λ (m : ℕ). map f (counting 0 port) ++ replicate m []) none ∙ append-nil (map f (counting 0 port)) ∙ ap (λ (k : ℕ). map f (counting 0 k)) same

  pub wired_long : (port : ℕ) → port < n → port < length (wired_to f n port)
  wired_long port below =
      let none : List (List ℕ) = replicate (n - port) [] in
      let all : length (wired_to f n port) ≡ length (map f (counting 0 port)) + length none = length-append (map f (counting 0 port)) none in
      let left : n - port ≡ suc (n - (port + 1)) = omega (arith, below) in
      let some : length none ≡ suc (length (replicate_nowhere (n - (port + 1)))) = ap (λ (m : ℕ). length (replicate_nowhere m)) left in
      let first = long port in
      omega (arith, all, some, first)
