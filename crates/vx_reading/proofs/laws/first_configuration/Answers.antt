use Rattle.std.proofs.Common.{false}
use Rattle.vx_plan.specs.First.{first_configuration, first_plan}
use Rattle.vx_reading.proofs.FirstRead.{first_is_read}
use Rattle.vx_reading.proofs.OneAnswer.{one_plan, never_both}
use Rattle.vx_reading.proofs.laws.first_configuration.Goals as goal

pub returns : goal.returns
returns c = record {
  read = λ environment. (λ text. false, first_is_read (λ text. false) environment);
  plan = λ environment plan read. one_plan environment first_configuration plan first_plan read (λ text. false, first_is_read (λ text. false) environment);
  taken = λ environment fault refused. never_both refused.0 environment first_configuration first_plan fault (first_is_read refused.0 environment) refused.1;
}
