use Rattle.std.proofs.Common.{◌≡◌, ◌≤◌, ◌+◌, ◌++◌, length}
use Rattle.std.specs.Vec.{vec_capacity}
use Rattle.vx_keeping.specs.Given.{SameCopies}
use Rattle.vx_keeping.proofs.hosted.leave_all.Given as goal

abbrev pub invariant-loop-copy : goal.invariant-loop-copy
invariant-loop-copy g l = record {
  same : SameCopies (g.T.Transform.held l.fn.transform ++ l.fn.left.items) (g.T.Transform.held l.transform ++ l.left.items);
  ports : g.T.Transform.port_count l.transform ≡ g.T.Transform.port_count l.fn.transform;
  room : length l.left.items + length (g.T.Transform.held l.transform) ≤ vec_capacity l.left;
}

abbrev pub decreases-loop-copy : goal.decreases-loop-copy
decreases-loop-copy g l = length (g.T.Transform.held l.transform)
