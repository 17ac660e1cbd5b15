use Rattle.std.proofs.Common.{refl, arith}
use Rattle.std.specs.Str.{chars, is_utf8}
use Rattle.std.specs.Str.Lossy.{utf8_lossy, utf8_valid_len}
use Rattle.vx_record.specs.Parcels.{port_list}
use Rattle.vx_record.specs.Transforms.{is_free}
use Rattle.vx_examples.specs.RefusedTransforms.{ticked_host, keeping_host}
use Rattle.vx_examples.proofs.ByFindings.{legal_by}
use Rattle.vx_examples.proofs.Transforming.{host}
use Rattle.vx_examples.proofs.Chains.{beside_two, beside_tick}
use Rattle.vx_examples.proofs.before_the_refused.Goals as goal

pub returns-clause-ticked_host : goal.returns-clause-ticked_host
unfolding utf8_lossy utf8_valid_len is_utf8 chars port_list lib.Utf8.encode
returns-clause-ticked_host c = legal_by ticked_host refl (record { rule = is_free; follows = host _ refl; reached = tt }, beside_two)

pub returns-clause-keeping_host : goal.returns-clause-keeping_host
unfolding utf8_lossy utf8_valid_len is_utf8 chars port_list lib.Utf8.encode
returns-clause-keeping_host c = legal_by keeping_host refl (record { rule = is_free; follows = host _ refl; made = refl; refused = tt; same = λ c. omega arith }, beside_tick)
