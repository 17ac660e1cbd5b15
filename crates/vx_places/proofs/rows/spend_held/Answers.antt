use Rattle.std.proofs.Common.{refl, ap}
use Rattle.std.proofs.lemmas.Option.{IfSome_then}
use Rattle.vx_places.specs.Views.{held_items}
use Rattle.vx_places.proofs.Written.{held_written, loses, keeps, gets, held_capacity_kept}
use Rattle.vx_places.proofs.rows.spend_held.Goals as goal

pub returns-clause-loses : goal.returns-clause-loses
returns-clause-loses c = IfSome_then c.take_copy.result c.take_copy.ensures.loses (λ lost less.
    let change = held_written _ _ _ c.requires.within c.index_mut.ensures.value _ in loses change lost.copy lost.last _ _ (ap held_items c.in-Some.is) refl less (keeps change (λ j. refl)))

pub returns-clause-kept : goal.returns-clause-kept
returns-clause-kept c = gets _ c.args.rows.now.items c.args.i _ c.requires.within refl

pub returns-clause-capacities : goal.returns-clause-capacities
returns-clause-capacities c = search held_capacity_kept
