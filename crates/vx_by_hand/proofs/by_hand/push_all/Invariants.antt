use Rattle.std.proofs.Common.{◌≡◌, length}
use Rattle.vx_record.specs.Installs.{started}
use Rattle.vx_hub.specs.Standing.{IsHub}
use Rattle.vx_by_hand.specs.ByHand.{SparesEach}
use Rattle.vx_by_hand.proofs.by_hand.push_all.Given as goal

abbrev pub invariant-loop-instance : goal.invariant-loop-instance
invariant-loop-instance g l = record {
  hub : IsHub g.P.Port.observed l.hub;
  size : length (started l.hub.engine.log) ≡ length (started l.fn.hub.engine.log);
  spares : SparesEach l.fn.hub.engine.log l.hub.engine.log;
}
