-- Laws on lists of copies.
use Rattle.std.proofs.Common.{◌≡◌, ℕ, zero, suc, ◌+◌, ◌*◌, ◌<◌, ◌≤◌, List, [], ◌∷◌, ◌++◌, length, take, drop, get_or, set, Some, refl, arith, add-one, ◌==◌, ◌&&◌, if◌then◌else◌}
use Rattle.std.specs.List.{slice_get}
use Rattle.std.proofs.lemmas.Grind.{common_steps}
use Rattle.vx_ledger.specs.Copies.{Copy, copies_of, numbered, renumbered, children_of, joined, each_alone}

-- copies of two lists
pub copies_of-append : (batch place : ℕ) (xs ys : List Copy) →
    copies_of batch place (xs ++ ys) ≡ copies_of batch place xs + copies_of batch place ys
copies_of-append batch place [] ys = grind arith
copies_of-append batch place (x ∷ xs) ys = grind (arith, copies_of-append batch place xs ys)

-- there are no more copies of a batch than copies
pub copies_of-bound : (batch place : ℕ) (xs : List Copy) → copies_of batch place xs ≤ length xs
copies_of-bound batch place [] = grind arith
copies_of-bound batch place (x ∷ xs) = grind (arith, copies_of-bound batch place xs)

-- one more copy at the end
pub numbered_more : (n batch place first : ℕ) →
    numbered (n + 1) batch place first
    ≡ numbered n batch place first ++ record { batch = batch; number = first + n; place = place } ∷ []
numbered_more zero batch place first = grind arith
numbered_more (suc n) batch place first =
    rw add-one (grind (arith, numbered_more n batch place (first + 1), add-one))

-- all copies of a birth are of its batch
pub copies_of-numbered : (b p n batch place first : ℕ) →
    copies_of b p (numbered n batch place first) ≡ (if (batch == b) && (place == p) then n else 0)
copies_of-numbered b p zero batch place first = grind arith
copies_of-numbered b p (suc n) batch place first = grind (arith, copies_of-numbered b p n batch place (first + 1))

-- fresh numbers keep each batch
pub copies_of-renumbered : (batch place first : ℕ) (cs : List Copy) →
    copies_of batch place (renumbered first cs) ≡ copies_of batch place cs
copies_of-renumbered batch place first [] = refl
copies_of-renumbered batch place first (c ∷ cs) = grind (arith, copies_of-renumbered batch place (first + 1) cs)

-- one more copy of the list renumbered in place
pub renumbered_step : (first i : ℕ) (xs ys : List Copy) (c : Copy) → i < length xs →
    ys ≡ renumbered first (take i xs) ++ drop i xs → c ≡ get_or ys i c →
    set ys i (record { batch = c.batch; number = first + i; place = c.place }) ≡ renumbered first (take (i + 1) xs) ++ drop (i + 1) xs
renumbered_step first i [] ys c l e g = grind arith
renumbered_step first zero (x ∷ xs) ys c l e g = grind (arith, common_steps)
renumbered_step first (suc i) (x ∷ xs) [] c l e g = grind (arith, common_steps)
renumbered_step first (suc i) (x ∷ xs) (y ∷ ys) c l e g = grind (arith, common_steps, renumbered_step (first + 1) i xs ys c)

-- one more copy of the list renumbered into a list of its own
pub renumbered_copied : (first i : ℕ) (xs : List Copy) (c : Copy) → i < length xs → c ≡ get_or xs i c →
    renumbered first (take (i + 1) xs)
    ≡ renumbered first (take i xs) ++ record { batch = c.batch; number = first + i; place = c.place } ∷ []
renumbered_copied first i [] c l g = grind arith
renumbered_copied first zero (x ∷ xs) c l g = grind (arith, common_steps)
renumbered_copied first (suc i) (x ∷ xs) c l g = grind (arith, common_steps, renumbered_copied (first + 1) i xs c)

-- a single copy with a fresh number
pub renumbered_alone : (first : ℕ) (cs : List Copy) (c : Copy) → length cs ≡ 1 → c ≡ get_or cs 0 c →
    renumbered first cs ≡ record { batch = c.batch; number = first; place = c.place } ∷ []
renumbered_alone first [] c one is = grind arith
renumbered_alone first (x ∷ []) c one is = grind (arith, common_steps)
renumbered_alone first (x ∷ y ∷ cs) c one is = grind arith

-- one more target at the end
pub children_of_more : (k first : ℕ) (parent : List Copy) →
    children_of (k + 1) first parent
    ≡ children_of k first parent ++ renumbered (first + k * length parent) parent ∷ []
children_of_more zero first parent = grind arith
children_of_more (suc k) first parent =
    rw add-one (grind (arith, children_of_more k (first + length parent) parent, add-one))

-- the list of the t-th target begins t times the parent's length past the first number
pub slice_get-children_of : (k t first : ℕ) (parent : List Copy) → t < k →
    slice_get (children_of k first parent) t ≡ Some (renumbered (first + t * length parent) parent)
slice_get-children_of zero t first parent l = grind arith
slice_get-children_of (suc k) zero first parent l = grind arith
slice_get-children_of (suc k) (suc t) first parent l =
    grind (arith, slice_get-children_of k t (first + length parent) parent)

-- a batch has k children for each copy
pub copies_of-children_of : (batch place k first : ℕ) (parent : List Copy) →
    copies_of batch place (joined (children_of k first parent)) ≡ k * copies_of batch place parent
copies_of-children_of batch place zero first parent = grind arith
copies_of-children_of batch place (suc k) first parent =
    grind (
      arith,
      copies_of-children_of batch place k (first + length parent) parent,
      copies_of-append batch place (renumbered first parent) (joined (children_of k (first + length parent) parent)),
      copies_of-renumbered batch place first parent,
    )

-- one more copy alone at the end
pub each_alone-push : (cs : List Copy) (c : Copy) → each_alone (cs ++ c ∷ []) ≡ each_alone cs ++ (c ∷ []) ∷ []
each_alone-push [] c = refl
each_alone-push (x ∷ xs) c = rw (each_alone-push xs c) refl

-- copies that stand alone, one behind the other
pub joined-each_alone : (cs : List Copy) → joined (each_alone cs) ≡ cs
joined-each_alone [] = refl
joined-each_alone (c ∷ cs) = rw (joined-each_alone cs) refl
