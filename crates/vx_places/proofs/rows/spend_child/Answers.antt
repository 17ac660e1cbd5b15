use Rattle.std.proofs.Common.{refl}
use Rattle.std.proofs.lemmas.Option.{IfSome_then}
use Rattle.vx_record.specs.Places.Place.{Waiting}
use Rattle.vx_places.proofs.Written.{waiting_written, loses, keeps, read_at, if_none_then, capacities_kept}
use Rattle.vx_places.proofs.rows.spend_child.Goals as goal

pub returns-clause-loses : goal.returns-clause-loses
returns-clause-loses c = IfSome_then c.take_child_copy.result c.take_child_copy.ensures.loses (λ lost less.
    let others = c.take_child_copy.ensures.others in
    let change = waiting_written _ _ _ c.requires.within c.index_mut.ensures.value _ refl refl refl c.args.target others in loses change lost.copy lost.last _ _ refl refl less (keeps change (λ j. refl)))

pub returns-clause-empty : goal.returns-clause-empty
returns-clause-empty c =
    let seen = read_at c.args.rows.now.items c.args.i _ c.requires.within c.index_mut.ensures.value (Waiting c.args.i c.args.target) refl in
    if_none_then c.take_child_copy.result (λ none. rw seen none) c.take_child_copy.ensures.empty

pub returns-clause-capacities : goal.returns-clause-capacities
returns-clause-capacities c = search capacities_kept
