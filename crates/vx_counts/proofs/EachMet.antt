-- What is kept of each instance is what is told of all.
use Rattle.std.proofs.Common.{◌≡◌, ℕ, ◌+◌, List, [], ◌∷◌, length, map, refl}
use Rattle.vx_record.specs.declared.tally.Tally.{Tally}
use Rattle.vx_record.specs.Records.{Record}
use Rattle.vx_record.specs.Copies.{counting}
use Rattle.vx_record.specs.Tallies.{tally}
use Rattle.vx_counts.specs.Meets.{EachMeets}
use Rattle.vx_counts.specs.Laws.{AllMet}

from : (h : Record) (i : ℕ) (kept : List Tally) → EachMeets h i kept → kept ≡ map (tally h) (counting i (length kept))
from h i [] met = refl
from h i (k ∷ ks) met = let rest = from h (i + 1) ks met.1 in let here = met.0 in λ t. here t ∷ rest t

pub all_met : AllMet
all_met h kept met = from h 0 kept met
