use Rattle.std.proofs.Common.{ap, Some, refl, inr}
use Rattle.vx_places.specs.Numbers.{parcels_out}
use Rattle.vx_places.specs.Views.{KeepsOn}
use Rattle.vx_places.proofs.Written.{has, outputs_written, outputs_related, output_back, back, takes, capacities_kept}
use Rattle.vx_places.proofs.rows.unpop_output.Goals as goal

pub put_back-requires : goal.put_back-requires
put_back-requires c = has _ c.args.rows.now.items c.args.i _ c.requires.within c.index_mut.ensures.value c.requires.room

pub returns-clause-takes : goal.returns-clause-takes
returns-clause-takes c = takes (back (outputs_written _ _ _ c.requires.within c.index_mut.ensures.value _)) _ _ (ap (λ os. Some (parcels_out os)) c.put_back.ensures.items) refl
    (outputs_related _ _ _ c.requires.within c.index_mut.ensures.value (λ was now. KeepsOn now was) (λ os ports copy on. on) _ (λ ports copy on. rw c.put_back.ensures.items (inr on)))

pub returns-clause-output : goal.returns-clause-output
returns-clause-output c = output_back _ _ _ c.requires.within c.index_mut.ensures.value c.args.output _ c.put_back.ensures.items

pub returns-clause-capacities : goal.returns-clause-capacities
returns-clause-capacities c = search capacities_kept
