use Rattle.std.proofs.Common.{◌≡◌, take}
use Rattle.vx_plan.proofs.copies.copy_routes.Given as goal

abbrev pub invariant-loop-route : goal.invariant-loop-route
invariant-loop-route l = l.copies ≡ take l.route-index l.routes
