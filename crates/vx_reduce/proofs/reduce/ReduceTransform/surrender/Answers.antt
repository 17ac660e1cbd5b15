use Rattle.std.proofs.Common.{ap}
use Rattle.vx_reduce.specs.Groups.{copies_held}
use Rattle.vx_reduce.proofs.Surrender.{none_weaker}
use Rattle.vx_reduce.proofs.Answered.{given_up}
use Rattle.vx_reduce.proofs.reduce.ReduceTransform.surrender.Goals as goal

pub returns-clause-none : goal.returns-clause-none
returns-clause-none c = given_up c.take_copy.result (copies_held c.args.self.now.groups) (copies_held c.take_copy.new.self) c.take_copy.ensures.some c.take_copy.ensures.none

pub returns-clause-empty : goal.returns-clause-empty
returns-clause-empty c = none_weaker c.take_copy.result (λ e. ap copies_held e) c.take_copy.ensures.empty
