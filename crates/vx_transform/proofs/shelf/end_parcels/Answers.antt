use Rattle.std.proofs.Common.{sym, ap, ◌∙◌}
use Rattle.vx_transform.specs.Shelves.{copies_dropped}
use Rattle.vx_transform.proofs.Nothing.{none_before, none_behind}
use Rattle.vx_transform.proofs.shelf.end_parcels.Goals as goal

pub end_parcel-requires : goal.end_parcel-requires
end_parcel-requires c =
    none_before c.in-Some.parcel.finalizers (copies_dropped c.pop_front.new.self.items) (sym (ap copies_dropped c.in-Some.ensures.items) ∙ c.loop-parcel.invariant)

pub loop-parcel-preserved : goal.loop-parcel-preserved
loop-parcel-preserved c =
    none_behind c.in-Some.parcel.finalizers (copies_dropped c.pop_front.new.self.items) (sym (ap copies_dropped c.in-Some.ensures.items) ∙ c.loop-parcel.invariant)
