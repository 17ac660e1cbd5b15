use Rattle.std.proofs.Common.{refl}
use Rattle.std.specs.Str.{chars, is_utf8}
use Rattle.std.specs.Str.Lossy.{utf8_lossy, utf8_valid_len}
use Rattle.vx_plan.proofs.FirstPlan.{first_stands}
use Rattle.vx_record.specs.Parcels.{port_list}
use Rattle.vx_examples.specs.EmptyInput as empty_input
use Rattle.vx_examples.specs.UnfinishedLine as unfinished_line
use Rattle.vx_examples.specs.FailedTake as failed_take
use Rattle.vx_examples.proofs.ByFindings.{legal_by}
use Rattle.vx_examples.proofs.Closing.{closed_by}
use Rattle.vx_examples.proofs.short_runs.Goals as goal

pub returns-clause-empty_input_legal : goal.returns-clause-empty_input_legal
unfolding utf8_lossy utf8_valid_len is_utf8 chars port_list lib.Utf8.encode
returns-clause-empty_input_legal c = legal_by empty_input.run refl (first_stands, tt)

pub returns-clause-unfinished_line_legal : goal.returns-clause-unfinished_line_legal
unfolding utf8_lossy utf8_valid_len is_utf8 chars port_list lib.Utf8.encode
returns-clause-unfinished_line_legal c = legal_by unfinished_line.run refl (first_stands, tt)

pub returns-clause-failed_take_legal : goal.returns-clause-failed_take_legal
unfolding utf8_lossy utf8_valid_len is_utf8 chars port_list lib.Utf8.encode
returns-clause-failed_take_legal c = legal_by failed_take.run refl (first_stands, tt)

pub returns-clause-empty_input_closed : goal.returns-clause-empty_input_closed
returns-clause-empty_input_closed c = closed_by empty_input.run refl refl refl

pub returns-clause-unfinished_line_closed : goal.returns-clause-unfinished_line_closed
returns-clause-unfinished_line_closed c = closed_by unfinished_line.run refl refl refl

pub returns-clause-failed_take_closed : goal.returns-clause-failed_take_closed
returns-clause-failed_take_closed c = closed_by failed_take.run refl refl refl
