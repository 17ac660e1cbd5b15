use Rattle.vx_record.proofs.TasksOut.{out_to_worker, leased_when_unleased, out_made_by, others_spare, workers_spare, none_spares, tasks_spare, taskless_spares, spared_stays, tasks_out}
use Rattle.vx_record.proofs.OwnLeases.{lease_stays}
use Rattle.vx_record.proofs.Resting.{reading_spared}
use Rattle.vx_record.proofs.OwnContents.{contents_grow}
use Rattle.vx_record.proofs.Spenders.{spent_by_taker}
use Rattle.vx_record.proofs.task_laws.tasks_out.Goals as goal

pub returns-clause-worker : goal.returns-clause-worker
returns-clause-worker c = out_to_worker

pub returns-clause-unleased : goal.returns-clause-unleased
returns-clause-unleased c = leased_when_unleased

pub returns-clause-made : goal.returns-clause-made
returns-clause-made c = out_made_by

pub returns-clause-others : goal.returns-clause-others
returns-clause-others c = others_spare

pub returns-clause-workers : goal.returns-clause-workers
returns-clause-workers c = workers_spare

pub returns-clause-nobody : goal.returns-clause-nobody
returns-clause-nobody c = none_spares

pub returns-clause-tasks : goal.returns-clause-tasks
returns-clause-tasks c = tasks_spare

pub returns-clause-taskless : goal.returns-clause-taskless
returns-clause-taskless c = taskless_spares

pub returns-clause-spared : goal.returns-clause-spared
returns-clause-spared c = spared_stays

pub returns-clause-out : goal.returns-clause-out
returns-clause-out c = tasks_out

pub returns-clause-lease : goal.returns-clause-lease
returns-clause-lease c = lease_stays

pub returns-clause-reading : goal.returns-clause-reading
returns-clause-reading c = reading_spared

pub returns-clause-contents : goal.returns-clause-contents
returns-clause-contents c = contents_grow

pub returns-clause-spent : goal.returns-clause-spent
returns-clause-spent c = spent_by_taker
