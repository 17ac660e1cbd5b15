use Rattle.std.proofs.Common.{refl, ap, ◌∙◌}
use Rattle.vx_places.proofs.Written.{has, children_wait, capacities_kept}
use Rattle.vx_places.proofs.rows.put_children.Goals as goal

pub returns-clause-waits : goal.returns-clause-waits
returns-clause-waits c = children_wait _ _ _ c.requires.within c.index_mut.ensures.value _ refl refl refl c.args.children
    (has _ c.args.rows.now.items c.args.i _ c.requires.within c.index_mut.ensures.value c.requires.none)
    (ap (λ (v : _). v.items) c.replace-none.ensures.after ∙ c.from_vec.ensures.items ∙ c.into_vec.ensures)

pub returns-clause-capacities : goal.returns-clause-capacities
returns-clause-capacities c = search capacities_kept
