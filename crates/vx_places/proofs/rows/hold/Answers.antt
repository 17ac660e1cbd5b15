use Rattle.std.proofs.Common.{ap, Some}
use Rattle.vx_places.specs.Views.{held_items}
use Rattle.vx_places.proofs.Written.{read, held_written, puts, held_capacity_kept}
use Rattle.vx_places.proofs.rows.hold.Goals as goal

pub push-requires : goal.push-requires
push-requires c = rw c.in-Some.is at (rw (read c.args.rows.now.items c.args.i _ c.requires.within c.index_mut.ensures.value) at c.requires.room)

pub unreachable-requires : goal.unreachable-requires
unreachable-requires c = rw c.in-None.is at (rw (read c.args.rows.now.items c.args.i _ c.requires.within c.index_mut.ensures.value) at c.requires.room)

pub returns-clause-puts : goal.returns-clause-puts
returns-clause-puts c = puts (held_written _ _ _ c.requires.within c.index_mut.ensures.value _) _ _ (ap held_items c.in-Some.is) (ap Some c.push.ensures.items)

pub returns-clause-capacities : goal.returns-clause-capacities
returns-clause-capacities c = search held_capacity_kept
