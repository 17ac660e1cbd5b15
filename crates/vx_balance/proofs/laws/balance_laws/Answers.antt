use Rattle.vx_balance.proofs.Creating.{none_created}
use Rattle.vx_balance.proofs.Holding.{one_held, oldest_held}
use Rattle.vx_balance.proofs.Lives.{counts_live}
use Rattle.vx_balance.proofs.Noting.{children_noted}
use Rattle.vx_balance.proofs.Owning.{stays}
use Rattle.vx_balance.proofs.Settling.{settled_closes}
use Rattle.vx_balance.proofs.Steps.{aside_kept, any_in_turn}
use Rattle.vx_balance.proofs.laws.balance_laws.Goals as goal

pub returns-clause-aside : goal.returns-clause-aside
returns-clause-aside c = aside_kept

pub returns-clause-turn : goal.returns-clause-turn
returns-clause-turn c = any_in_turn

pub returns-clause-stays : goal.returns-clause-stays
returns-clause-stays c = stays

pub returns-clause-live : goal.returns-clause-live
returns-clause-live c = counts_live

pub returns-clause-settled : goal.returns-clause-settled
returns-clause-settled c = settled_closes

pub returns-clause-one : goal.returns-clause-one
returns-clause-one c = one_held

pub returns-clause-oldest : goal.returns-clause-oldest
returns-clause-oldest c = oldest_held

pub returns-clause-created : goal.returns-clause-created
returns-clause-created c = none_created

pub returns-clause-children : goal.returns-clause-children
returns-clause-children c = children_noted
