use Rattle.std.proofs.Common.{◌≡◌, List, [], ◌∷◌, refl, ap}
use Rattle.std.proofs.lemmas.Grind.{common_steps}
use Rattle.std.proofs.Common.{arith}
use Rattle.vx_value.specs.Datum.{Datum, data_of, data_list}
use Rattle.vx_reduce.proofs.combine.appended.Goals as goal

data_list-of : (ds : List Datum) → data_list (data_of ds) ≡ ds
data_list-of [] = refl
data_list-of (d ∷ ds) = ap (λ l. d ∷ l) (data_list-of ds)

pub returns-in_ok-added-in-Items : goal.returns-in_ok-added-in-Items
returns-in_ok-added-in-Items c = grind (arith, common_steps, data_list-of c.in-Items.items)
