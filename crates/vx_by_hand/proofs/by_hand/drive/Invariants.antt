use Rattle.vx_hub.specs.Standing.{IsHub}
use Rattle.vx_by_hand.proofs.by_hand.drive.Given as goal

abbrev pub invariant-loop : goal.invariant-loop
invariant-loop g l = IsHub g.P.Port.observed l.hub
