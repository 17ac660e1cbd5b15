use Rattle.std.proofs.Common.{◌≡◌, false, IsSome}
use Rattle.vx_record.specs.Places.{Place, same_place}
use Rattle.vx_record.specs.Places.Place.{Held}
use Rattle.vx_record.specs.Shifts.{at}
use Rattle.vx_places.specs.Views.{parcels_here}
use Rattle.vx_moves.specs.Spends.{MaySpendAll, OnlySpends, unspent}
use Rattle.vx_moves.proofs.engine.EngineState.spend_all_held.Given as goal

abbrev pub invariant-loop-outcome : goal.invariant-loop-outcome
invariant-loop-outcome g l = record {
  spent : OnlySpends g.P.Port.observed l.i l.outcome l.fn.self l.self;
  others : (q : Place) → same_place (Held l.i) q ≡ false → at l.self.log q ≡ at l.fn.self.log q;
  kept : IsSome (parcels_here l.self.places (Held l.i));
  may : MaySpendAll l.self.log (Held l.i) l.outcome;
}

abbrev pub decreases-loop-outcome : goal.decreases-loop-outcome
decreases-loop-outcome g l = unspent l.self.log
