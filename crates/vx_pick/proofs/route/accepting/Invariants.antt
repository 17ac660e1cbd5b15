use Rattle.std.proofs.Common.{◌≡◌, ◌<◌, ◌^◌}
use Rattle.vx_pick.proofs.Bits.{IsSoFar}
use Rattle.vx_pick.proofs.route.accepting.Given as goal

abbrev pub invariant-loop-condition : goal.invariant-loop-condition
invariant-loop-condition l =
    (l.condition-items ≡ l.initial.condition-items)
    × (l.bit ≡ 2 ^ l.condition-index)
    × (l.accepting < l.bit)
    × IsSoFar l.initial.condition-items l.event l.condition-index l.accepting
