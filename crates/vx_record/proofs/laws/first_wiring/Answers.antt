use Rattle.vx_record.proofs.FirstWiring.{wiring_stays, started_stays, component_of_first, targets_of_first}
use Rattle.vx_record.proofs.laws.first_wiring.Goals as goal

pub returns-clause-wiring : goal.returns-clause-wiring
returns-clause-wiring c = wiring_stays

pub returns-clause-started : goal.returns-clause-started
returns-clause-started c = started_stays

pub returns-clause-component : goal.returns-clause-component
returns-clause-component c = component_of_first

pub returns-clause-targets : goal.returns-clause-targets
returns-clause-targets c = targets_of_first
