use Rattle.std.specs.Str.{chars, is_utf8}
use Rattle.std.specs.Str.Lossy.{utf8_lossy, utf8_valid_len}
use Rattle.std.specs.Fmt.{digits}
use Rattle.std.proofs.Common.{refl, sym}
use Rattle.vx_json.specs.Machine.{number_datum}
use Rattle.vx_json.specs.Objects.{object_of}
use Rattle.vx_json.specs.Written.{escaped}
use Rattle.vx_examples.specs.RefusedJsonLines.{born_of_no_object, born_before_the_last_line, written_as_text}
use Rattle.vx_examples.proofs.Refusals.{never, different, same_parts}
use Rattle.vx_examples.proofs.Reasons.{are_two}
use Rattle.vx_examples.proofs.refused_json_lines.Goals as goal

pub returns-clause-written_as_text : goal.returns-clause-written_as_text
returns-clause-written_as_text c = never written_as_text (λ l. let e = l.0.row.given in cc)

pub returns-clause-born_of_no_object : goal.returns-clause-born_of_no_object
unfolding utf8_lossy utf8_valid_len is_utf8 chars lib.Utf8.encode object_of number_datum escaped digits
returns-clause-born_of_no_object c = never born_of_no_object (λ l. different are_two refl refl (sym (same_parts l.0.row.yields).0))

pub returns-clause-born_before_the_last_line : goal.returns-clause-born_before_the_last_line
returns-clause-born_before_the_last_line c = never born_before_the_last_line (λ l. let e = (same_parts l.0.row.yields).2 in cc)
