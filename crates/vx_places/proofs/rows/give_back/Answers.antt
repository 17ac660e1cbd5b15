use Rattle.std.proofs.Common.{ap, refl}
use Rattle.vx_places.specs.Views.{held_items}
use Rattle.vx_places.specs.Capacities.{line_capacity}
use Rattle.vx_places.proofs.Written.{held_written, back, lends, has, gets, capacity_back}
use Rattle.vx_places.proofs.rows.give_back.Goals as goal

pub returns-clause-lends : goal.returns-clause-lends
returns-clause-lends c =
    let lent = has _ c.args.rows.now.items c.args.i _ c.requires.within c.index_mut.ensures.value c.requires.lent in
    lends (back (held_written _ _ _ c.requires.within c.index_mut.ensures.value _)) _ (ap held_items c.replace.ensures.after) (ap held_items lent)

pub returns-clause-kept : goal.returns-clause-kept
returns-clause-kept c = gets _ c.args.rows.now.items c.args.i _ c.requires.within (rw c.replace.ensures.after refl)

pub returns-clause-capacities : goal.returns-clause-capacities
returns-clause-capacities c =
    let lent = has _ c.args.rows.now.items c.args.i _ c.requires.within c.index_mut.ensures.value c.requires.lent in
    capacity_back _ _ _ c.requires.within c.index_mut.ensures.value _ _ (ap line_capacity lent) (ap line_capacity c.replace.ensures.after)
