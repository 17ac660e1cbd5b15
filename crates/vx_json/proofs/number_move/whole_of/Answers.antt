use Rattle.std.proofs.Common.{refl}
use Rattle.vx_json.proofs.NumberValues.{unparsed}
use Rattle.vx_json.proofs.number_move.whole_of.Goals as goal

pub returns-in-Err : goal.returns-in-Err
returns-in-Err c = rw (unparsed c.args.text.now c.in-Err.ensures.value.0) refl
