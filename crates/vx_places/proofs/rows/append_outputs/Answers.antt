use Rattle.std.proofs.Common.{ap, sym, ◌∙◌, ◌++◌, Some, refl}
use Rattle.std.proofs.lemmas.List.{map-append}
use Rattle.vx_transform.specs.declared.output.Output.{Output}
use Rattle.vx_places.specs.Numbers.{parcels_out}
use Rattle.vx_places.proofs.Written.{has, outputs_written, outputs_were, outputs_are, puts, capacities_kept}
use Rattle.vx_places.proofs.rows.append_outputs.Goals as goal

pub append-requires : goal.append-requires
append-requires c = has _ c.args.rows.now.items c.args.i _ c.requires.within c.index_mut.ensures.value c.requires.room

pub returns-clause-puts : goal.returns-clause-puts
returns-clause-puts c = puts (outputs_written _ _ _ c.requires.within c.index_mut.ensures.value _) _ _ refl (ap (λ os. Some (parcels_out os)) c.append.ensures.items ∙ ap Some (map-append (λ (o : Output). o.parcel) c.index_mut.result.now.outputs.items c.args.more))

pub returns-clause-added : goal.returns-clause-added
returns-clause-added c =
    outputs_are c.args.rows.now.items c.args.i _ c.requires.within c.index_mut.ensures.value _ ∙ c.append.ensures.items
    ∙ ap (λ os. os ++ c.args.more) (sym (outputs_were c.args.rows.now.items c.args.i _ c.requires.within c.index_mut.ensures.value))

pub returns-clause-capacities : goal.returns-clause-capacities
returns-clause-capacities c = search capacities_kept
