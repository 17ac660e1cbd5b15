use Rattle.vx_record.proofs.Further.{routing_kept, no_lease_after_abandon, prefix_grows}
use Rattle.vx_record.proofs.laws.routing_kept.Goals as goal

pub returns-clause-routing : goal.returns-clause-routing
returns-clause-routing c = routing_kept

pub returns-clause-leases : goal.returns-clause-leases
returns-clause-leases c = no_lease_after_abandon

pub returns-clause-prefix : goal.returns-clause-prefix
returns-clause-prefix c = prefix_grows
