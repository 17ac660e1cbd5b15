use Rattle.std.proofs.Common.{◌∙◌, ◌++◌, ◌∷◌, [], ap, sym, arith}
use Rattle.vx_places.proofs.Making.{made_empty, stages_more}
use Rattle.vx_places.proofs.row.make_stages.Goals as goal

pub end_stages-requires : goal.end_stages-requires
end_stages-requires c = rw c.loop-room.invariant.0 (made_empty _)

pub loop-room-preserved : goal.loop-room-preserved
loop-room-preserved c = (
  c.push_reserved.ensures.items ∙ ap (λ (xs : _). xs ++ c.in-Ok.stage ∷ []) c.loop-room.invariant.0
      ∙ sym (stages_more c.args.capacities.now c.loop-room.room-index c.in-Ok.stage (omega arith) c.in-Ok.ensures.items c.in-Ok.ensures.room),
  omega (arith, c.push_reserved.ensures.len),
  omega (arith, c.push_reserved.ensures.capacity),
)
