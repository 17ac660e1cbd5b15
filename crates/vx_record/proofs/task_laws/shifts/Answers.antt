use Rattle.vx_record.proofs.Shifting.{entry_shifts, stands_at}
use Rattle.vx_record.proofs.OwnPlaces.{outputs_own, waiting_own, held_own}
use Rattle.vx_record.proofs.task_laws.shifts.Goals as goal

pub returns-clause-entry : goal.returns-clause-entry
returns-clause-entry c = entry_shifts

pub returns-clause-stands : goal.returns-clause-stands
returns-clause-stands c = stands_at

pub returns-clause-outputs : goal.returns-clause-outputs
returns-clause-outputs c = outputs_own

pub returns-clause-waiting : goal.returns-clause-waiting
returns-clause-waiting c = waiting_own

pub returns-clause-held : goal.returns-clause-held
returns-clause-held c = held_own
