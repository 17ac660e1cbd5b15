use Rattle.std.proofs.Common.{◌≡◌, length}
use Rattle.vx_keeping.proofs.Inputs.{GivesSome}
use Rattle.vx_keeping.proofs.giving.give_all.Given as goal

abbrev pub invariant-loop-parcel : goal.invariant-loop-parcel
invariant-loop-parcel l = record {
  gives : GivesSome l.now l.fn.taken.items l.taken.items l.fn.reduce l.reduce l.fn.shelf l.shelf;
  room : l.taken.room ≡ l.fn.taken.room;
}

abbrev pub decreases-loop-parcel : goal.decreases-loop-parcel
decreases-loop-parcel l = length l.taken.items
