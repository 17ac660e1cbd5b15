-- The last end of each stream among some positions.
use Rattle.std.proofs.Common.{◌≡◌, List, [], ◌∷◌, ◌++◌, refl}
use Rattle.vx_ends.specs.declared.position.Position.{Position}
use Rattle.vx_record.specs.Confirms.{moved_to, last_of_each}

pub last_of_each-append : (positions xs ys : List Position) → last_of_each positions (xs ++ ys) ≡ last_of_each (last_of_each positions xs) ys
last_of_each-append positions [] ys = refl
last_of_each-append positions (p ∷ xs) ys = last_of_each-append (moved_to p.stream p.end positions) xs ys
