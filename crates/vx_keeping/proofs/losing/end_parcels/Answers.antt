use Rattle.vx_keeping.proofs.Popping.{first_bare}
use Rattle.vx_keeping.proofs.losing.end_parcels.Goals as goal

pub end_parcel-requires : goal.end_parcel-requires
end_parcel-requires c = (first_bare c.loop-parcel.rest.items c.in-Some.parcel c.pop.new.self.items c.in-Some.ensures.some c.loop-parcel.invariant).0

pub loop-parcel-preserved : goal.loop-parcel-preserved
loop-parcel-preserved c = (first_bare c.loop-parcel.rest.items c.in-Some.parcel c.pop.new.self.items c.in-Some.ensures.some c.loop-parcel.invariant).1
