-- The ends of some positions, one after the other.
use Rattle.std.proofs.Common.{◌≡◌, ℕ, ◌+◌, ◌<◌, List, [], ◌∷◌, ◌++◌, length, sum, map, take, get_or, ap, ◌∙◌, arith}
use Rattle.std.proofs.lemmas.List.{take_more}
use Rattle.std.proofs.lemmas.List.Sums.{sum_by-cons}
use Rattle.vx_ends.specs.declared.position.Position.{Position}
use Rattle.vx_record.specs.Records.{capped}

sum_last : (ps : List Position) (q : Position) → sum (map (λ (p : Position). p.end) (ps ++ q ∷ [])) ≡ sum (map (λ (p : Position). p.end) ps) + q.end
sum_last [] q = let x = sum_by-cons (λ n. n) q.end [] in omega (arith, x)
sum_last (p ∷ ps) q =
    let x = sum_by-cons (λ n. n) p.end (map (λ (p : Position). p.end) (ps ++ q ∷ [])) in
    let y = sum_by-cons (λ n. n) p.end (map (λ (p : Position). p.end) ps) in
    let ih = sum_last ps q in
    omega (arith, x, y, ih)

pub total_more : (ps : List Position) (k : ℕ) (d : Position) (old new : ℕ) → k < length ps → old ≡ capped (sum (map (λ (p : Position). p.end) (take k ps))) →
    new ≡ capped (old + (get_or ps k d).end) → new ≡ capped (sum (map (λ (p : Position). p.end) (take (k + 1) ps)))
total_more ps k d old new below before more =
    let taken = ap (λ qs. sum (map (λ (p : Position). p.end) qs)) (take_more ps k d below) ∙ sum_last (take k ps) (get_or ps k d) in
    omega (arith, taken, before, more)
