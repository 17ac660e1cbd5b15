-- The ends of streams that rise, one after the other.
use Rattle.std.proofs.Common.{◌≡◌, ℕ, ◌+◌, ◌≤◌, Bool, true, false, List, [], ◌∷◌, refl, arith, subst}
use Rattle.std.specs.Prelude.{if◌then◌else◌, ◌==◌, nat_lt}
use Rattle.std.proofs.lemmas.Bool.Decides.{nat_tests}
use Rattle.vx_ends.specs.declared.position.Position.{Position}
use Rattle.vx_record.specs.Confirms.{moved_to, last_of_each}

-- streams rise from a number on
abbrev pub Rising : ℕ → List Position → Type 0
Rising low [] = Unit {0}
Rising low (p ∷ rest) = (low ≤ p.stream) × Rising (p.stream + 1) rest

Rising-moved : (low : ℕ) (p : Position) (ps : List Position) → low ≤ p.stream → Rising low ps → Rising low (moved_to p.stream p.end ps)
Rising-moved low p [] above rises = (above, tt)
Rising-moved low p (q ∷ rest) above rises = go (nat_lt p.stream q.stream) (p.stream == q.stream) refl refl (λ l. Rising-moved (q.stream + 1) p rest l rises.1)
  where
    go : (l k : Bool) → nat_lt p.stream q.stream ≡ l → (p.stream == q.stream) ≡ k →
        (q.stream + 1 ≤ p.stream → Rising (q.stream + 1) (moved_to p.stream p.end rest)) →
        Rising low (if l then record { stream = p.stream; end = p.end } ∷ q ∷ rest
        else (if k then record { stream = p.stream; end = p.end } ∷ rest else q ∷ moved_to p.stream p.end rest))
    go true k el ek ih = let x : p.stream + 1 ≤ q.stream = grind (arith, nat_tests) in (above, (x, rises.1))
    go false true el ek ih = let same : q.stream ≡ p.stream = grind (arith, nat_tests) in (above, subst (λ n. Rising (n + 1) rest) same rises.1)
    go false false el ek ih = let x : q.stream + 1 ≤ p.stream = grind (arith, nat_tests) in (rises.0, ih x)

pub Rising-last : (ps xs : List Position) → Rising 0 ps → Rising 0 (last_of_each ps xs)
Rising-last ps [] rises = rises
Rising-last ps (x ∷ xs) rises = Rising-last (moved_to x.stream x.end ps) xs (Rising-moved 0 x ps (omega arith) rises)
