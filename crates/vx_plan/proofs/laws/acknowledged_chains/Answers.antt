use Rattle.vx_plan.proofs.Chains.{chain_acknowledged}
use Rattle.vx_plan.proofs.Rising.{acknowledged_on}
use Rattle.vx_plan.proofs.laws.acknowledged_chains.Goals as goal

pub returns-clause-chain : goal.returns-clause-chain
returns-clause-chain c = chain_acknowledged

pub returns-clause-on : goal.returns-clause-on
returns-clause-on c = acknowledged_on
