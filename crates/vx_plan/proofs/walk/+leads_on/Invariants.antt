use Rattle.std.proofs.Common.{◌+◌, ◌*◌, length}
use Rattle.vx_plan.specs.Walks.{names_in}
use Rattle.vx_plan.proofs.Search.{unseen_count}
use Rattle.vx_plan.proofs.walk.+leads_on.Given as goal

-- each step finds a component that wasn't seen, or leaves one
abbrev pub decreases-leads_on : goal.decreases-leads_on
decreases-leads_on l = 2 * unseen_count l.plan.now.components (names_in l.seen.now) + length (names_in l.todo.now)
