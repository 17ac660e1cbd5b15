-- The run with a filter is legal, and leaves nothing to do.
use Rattle.std.proofs.Common.{[], ◌∷◌, refl, arith}
use Rattle.std.specs.Str.{chars, is_utf8}
use Rattle.std.specs.Str.Lossy.{utf8_lossy, utf8_valid_len}
use Rattle.vx_graph.specs.Order.{in_order, enter}
use Rattle.vx_record.specs.Parcels.{port_list}
use Rattle.vx_record.specs.Legal.{IsLegal, IsClosed}
use Rattle.vx_examples.specs.Filtered.{plan, run}
use Rattle.vx_examples.proofs.Plans.{stands}
use Rattle.vx_examples.proofs.ByFindings.{legal_by}
use Rattle.vx_examples.proofs.Closing.{closed_by}
use Rattle.vx_examples.proofs.Transforming.{filter_rule, filters}

pub legal : IsLegal run
unfolding utf8_lossy utf8_valid_len is_utf8 chars port_list lib.Utf8.encode in_order enter
legal =
    legal_by run refl (
      record { rule = filter_rule; follows = filters _ refl; made = refl; refused = refl; same = λ c. omega arith },
      (stands (1 ∷ 2 ∷ 0 ∷ []) plan refl, tt),
    )

pub closed : IsClosed run
closed = closed_by run refl refl refl
