use Rattle.vx_places.proofs.Looking.{ended_where}
use Rattle.vx_places.proofs.Making.{held_says}
use Rattle.vx_places.proofs.Ports.{ports_there, back_same}
use Rattle.vx_places.proofs.Spending.{spent_shifts, lent_spent_shifts}
use Rattle.vx_places.proofs.Steps.{holds_step, still_shifts, same_holds, keeper_holds, taken_known, oldest_there, lent_is, lent_comes_back, none_holds}
use Rattle.vx_places.proofs.Recorded.{filled_there, lent_filled, stands_there}
use Rattle.vx_places.proofs.laws.places_laws.Goals as goal

pub returns : goal.returns
returns c = record {
  step = holds_step;
  still = still_shifts;
  spent = spent_shifts;
  spent_lent = lent_spent_shifts;
  same = same_holds;
  keeper = keeper_holds;
  taken = taken_known;
  put_back = back_same;
  oldest = oldest_there;
  ports = ports_there;
  lent = lent_is;
  back = lent_comes_back;
  none = none_holds;
  says = held_says;
  filled = filled_there;
  lent_filled = lent_filled;
  stands = stands_there;
  ended = ended_where;
}
