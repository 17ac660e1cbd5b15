use Rattle.std.proofs.Common.{refl}
use Rattle.vx_record.proofs.Adding.{adds_none}
use Rattle.vx_counts.proofs.Once.{itself}
use Rattle.vx_landing.proofs.Answering.{adds_own, adds_step, left_out}
use Rattle.vx_landing.specs.Landings.{ComesBehind}
use Rattle.vx_landing.proofs.ceasing.note_return.Goals as goal

pub return_task-requires-clause-left : goal.return_task-requires-clause-left
return_task-requires-clause-left g c = left_out c.args.engine.now.log c.args.i c.requires.stands.legal c.requires.out

pub returns-clause-only : goal.returns-clause-only
returns-clause-only g c = adds_own refl c.return_task.ensures.steps

pub returns-clause-unleased : goal.returns-clause-unleased
returns-clause-unleased g c = rw (c.return_task.ensures.steps.noted, itself c.args.i) refl

pub returns-clause-behind : goal.returns-clause-behind
returns-clause-behind g c = let log = c.args.engine.now.log in adds_step (adds_none (ComesBehind c.args.i) log log refl) refl c.return_task.ensures.steps
