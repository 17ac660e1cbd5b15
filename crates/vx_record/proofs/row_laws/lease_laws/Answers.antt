use Rattle.vx_record.proofs.Promises.{leased_runs}
use Rattle.vx_record.proofs.Wired.{component_in_place}
use Rattle.vx_record.proofs.Untried.{leased_spent}
use Rattle.vx_record.proofs.row_laws.lease_laws.Goals as goal

pub returns-clause-runs : goal.returns-clause-runs
returns-clause-runs c = leased_runs

pub returns-clause-in_place : goal.returns-clause-in_place
returns-clause-in_place c = component_in_place

pub returns-clause-spent : goal.returns-clause-spent
returns-clause-spent c = leased_spent
