use Rattle.vx_instances.proofs.Beginning.{fresh_knows}
use Rattle.vx_instances.proofs.states.InstanceStates.new.Goals as goal

pub returns-clause-knows : goal.returns-clause-knows
returns-clause-knows g c = λ plan once now accepted fresh. fresh_knows g.P.Port.observed plan once now accepted c.args.states.items fresh
