-- Where batches end, with one more.
use Rattle.std.proofs.Common.{◌≡◌, List, [], ◌∷◌, ◌++◌, refl, ap}
use Rattle.std.specs.Prelude.{map}
use Rattle.vx_ends.specs.declared.position.Position.{Position}
use Rattle.vx_record.specs.Confirms.{last_of_each, moved_to}

-- each stream's last position, with one more behind
pub last_more : (before ps : List Position) (p : Position) → last_of_each before (ps ++ p ∷ []) ≡ moved_to p.stream p.end (last_of_each before ps)
last_more before [] p = refl
last_more before (q ∷ ps) p = last_more (moved_to q.stream q.end before) ps p

pub map_more : {X Y : Type 0} (f : X → Y) (xs : List X) (x : X) → map f (xs ++ x ∷ []) ≡ map f xs ++ f x ∷ []
map_more f [] x = refl
map_more f (y ∷ xs) x = ap (λ ys. f y ∷ ys) (map_more f xs x)
