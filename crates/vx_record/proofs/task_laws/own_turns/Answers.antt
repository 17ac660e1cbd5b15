use Rattle.vx_record.proofs.Mine.{others}
use Rattle.vx_record.proofs.OwnTurns.{worker_own, out_own, moment_own, closed_own, retired_own}
use Rattle.vx_record.proofs.task_laws.own_turns.Goals as goal

pub returns-clause-others : goal.returns-clause-others
returns-clause-others c = others

pub returns-clause-worker : goal.returns-clause-worker
returns-clause-worker c = worker_own

pub returns-clause-out : goal.returns-clause-out
returns-clause-out c = out_own

pub returns-clause-moment : goal.returns-clause-moment
returns-clause-moment c = moment_own

pub returns-clause-closed : goal.returns-clause-closed
returns-clause-closed c = closed_own

pub returns-clause-retired : goal.returns-clause-retired
returns-clause-retired c = retired_own
