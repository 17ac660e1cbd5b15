use Rattle.std.proofs.Common.{[], ◌∷◌, refl}
use Rattle.std.specs.Str.{chars, is_utf8}
use Rattle.std.specs.Str.Lossy.{utf8_lossy, utf8_valid_len}
use Rattle.std.specs.Fmt.{digits}
use Rattle.vx_graph.specs.Order.{in_order, enter}
use Rattle.vx_json.specs.Machine.{number_datum}
use Rattle.vx_json.specs.Objects.{object_of}
use Rattle.vx_json.specs.Written.{escaped}
use Rattle.vx_record.specs.Parcels.{port_list}
use Rattle.vx_examples.specs.JsonLines.{plan, run}
use Rattle.vx_examples.proofs.Plans.{stands}
use Rattle.vx_examples.proofs.ByFindings.{legal_by}
use Rattle.vx_examples.proofs.Closing.{closed_by}
use Rattle.vx_examples.proofs.json_lines.Goals as goal

pub returns-clause-legal : goal.returns-clause-legal
unfolding utf8_lossy utf8_valid_len is_utf8 chars port_list lib.Utf8.encode in_order enter object_of number_datum escaped digits
returns-clause-legal c = legal_by run refl (stands (1 ∷ 0 ∷ []) plan refl, tt)

pub returns-clause-closed : goal.returns-clause-closed
returns-clause-closed c = closed_by run refl refl refl
