use Rattle.std.proofs.Common.{◌≡◌, [], length}
use Rattle.vx_transform.specs.Shelves.{copies_dropped}
use Rattle.vx_keeping.proofs.losing.end_parcels.Given as goal

abbrev pub invariant-loop-parcel : goal.invariant-loop-parcel
invariant-loop-parcel l = copies_dropped l.rest.items ≡ []

abbrev pub decreases-loop-parcel : goal.decreases-loop-parcel
decreases-loop-parcel l = length l.rest.items
