use Rattle.std.proofs.Common.{◌≡◌, sym, ap, refl, length, arith, Some}
use Rattle.std.proofs.lemmas.Result.{on_ok_weaker}
use Rattle.vx_places.specs.Numbers.{parcels_out}
use Rattle.vx_places.proofs.Written.{gets, outputs_written, outputs_related, unchanged, capacities_kept}
use Rattle.vx_places.proofs.rows.reserve_outputs.Goals as goal

pub returns-clause-same : goal.returns-clause-same
returns-clause-same c = unchanged (outputs_written _ _ _ c.requires c.index_mut.ensures.value _) (ap (λ os. Some (parcels_out os)) (sym c.reserve.ensures.items))
    (outputs_related _ _ _ c.requires c.index_mut.ensures.value (λ was now. now ≡ was) (λ os. refl) _ c.reserve.ensures.items)

pub returns-clause-room : goal.returns-clause-room
returns-clause-room c = on_ok_weaker c.reserve.result
    (λ room. gets _ c.args.rows.now.items c.args.i _ c.requires (let n = ap length c.reserve.ensures.items in omega (arith, room, n))) c.reserve.ensures.room

pub returns-clause-capacities : goal.returns-clause-capacities
returns-clause-capacities c = search capacities_kept
