use Rattle.std.proofs.Common.{ap, length, arith, refl, inr, Some}
use Rattle.std.proofs.lemmas.Option.{IfSome_then}
use Rattle.vx_record.specs.Places.Place.{Outputs}
use Rattle.vx_places.specs.Numbers.{parcels_out}
use Rattle.vx_places.specs.Views.{KeepsOn}
use Rattle.vx_places.proofs.Written.{gets, outputs_written, outputs_related, output_taken, takes, read_at, if_none_of, capacities_kept}
use Rattle.vx_places.proofs.rows.pop_output.Goals as goal

pub returns-clause-takes : goal.returns-clause-takes
returns-clause-takes c = IfSome_then c.pop.result c.pop.ensures.some (λ output is.
    takes (outputs_written _ _ _ c.requires c.index_mut.ensures.value _) _ _ (ap (λ os. Some (parcels_out os)) is) refl
    (outputs_related _ _ _ c.requires c.index_mut.ensures.value KeepsOn (λ os ports copy on. on) _ (λ ports copy on. rw is (inr on))))

pub returns-clause-output : goal.returns-clause-output
returns-clause-output c = IfSome_then c.pop.result c.pop.ensures.some (λ output is. output_taken _ _ _ c.requires c.index_mut.ensures.value output _ is)

pub returns-clause-room : goal.returns-clause-room
returns-clause-room c = IfSome_then c.pop.result c.pop.ensures.some (λ parcel is.
    let n = ap length is in gets _ c.args.rows.now.items c.args.i _ c.requires (omega (arith, n, c.pop.ensures.within, c.pop.ensures.room)))

pub returns-clause-empty : goal.returns-clause-empty
returns-clause-empty c =
    rw (read_at c.args.rows.now.items c.args.i _ c.requires c.index_mut.ensures.value (Outputs c.args.i) refl)
    (if_none_of c.pop.result (λ none. ap (λ os. Some (parcels_out os)) (c.pop.ensures.none.0 none)))

pub returns-clause-capacities : goal.returns-clause-capacities
returns-clause-capacities c = search capacities_kept
