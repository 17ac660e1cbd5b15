use Rattle.std.proofs.Common.{false, rules, inr, refl}
use Rattle.vx_reading.proofs.reading.read_plan.Goals as goal

pub returns-in-Err-clause-read : goal.returns-in-Err-clause-read
returns-in-Err-clause-read c = (λ text. false, inr (search rules, refl))
