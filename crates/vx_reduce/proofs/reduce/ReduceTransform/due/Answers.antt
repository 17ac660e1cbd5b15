use Rattle.std.proofs.Common.{◌∙◌}
use Rattle.vx_reduce.proofs.GoingOn.{due_at}
use Rattle.vx_reduce.proofs.reduce.ReduceTransform.due.Goals as goal

pub returns-clause-stands : goal.returns-clause-stands
returns-clause-stands c s given i = c.next_check.ensures ∙ due_at s given c.args.self.now i
