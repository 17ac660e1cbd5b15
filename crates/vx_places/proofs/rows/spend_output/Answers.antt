use Rattle.std.proofs.Common.{refl}
use Rattle.std.proofs.lemmas.Option.{IfSome_then}
use Rattle.vx_places.specs.Views.{KeepsOn}
use Rattle.vx_places.proofs.Written.{outputs_written, outputs_related, loses, capacities_kept}
use Rattle.vx_places.proofs.rows.spend_output.Goals as goal

pub returns-clause-loses : goal.returns-clause-loses
returns-clause-loses c = IfSome_then c.take_output_copy.result c.take_output_copy.ensures.loses (λ lost less.
    loses (outputs_written _ _ _ c.requires c.index_mut.ensures.value _) lost.copy lost.last _ _ refl refl less
    (outputs_related _ _ _ c.requires c.index_mut.ensures.value KeepsOn (λ os ports copy on. on) _ c.take_output_copy.ensures.on))

pub returns-clause-capacities : goal.returns-clause-capacities
returns-clause-capacities c = search capacities_kept
