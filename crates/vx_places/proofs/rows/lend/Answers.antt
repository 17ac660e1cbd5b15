use Rattle.std.proofs.Common.{ap, ◌∙◌, sym}
use Rattle.vx_places.specs.Views.{held_items}
use Rattle.vx_places.specs.Capacities.{line_capacity}
use Rattle.vx_places.proofs.Written.{held_written, lends, gets, capacity_lent}
use Rattle.vx_places.proofs.rows.lend.Goals as goal

pub returns-clause-lends : goal.returns-clause-lends
returns-clause-lends c = lends (held_written _ _ _ c.requires.within c.index_mut.ensures.value _) _ (ap held_items (sym c.take.ensures.value ∙ c.in-Some.is)) (ap held_items c.take.ensures.after)

pub returns-clause-lent : goal.returns-clause-lent
returns-clause-lent c = gets _ c.args.rows.now.items c.args.i _ c.requires.within c.take.ensures.after

pub returns-clause-capacities : goal.returns-clause-capacities
returns-clause-capacities c = capacity_lent _ _ _ c.requires.within c.index_mut.ensures.value _ _ (ap line_capacity (sym c.take.ensures.value ∙ c.in-Some.is)) (ap line_capacity c.take.ensures.after)
