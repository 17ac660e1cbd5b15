-- The rules for stacks, by one name.
use Rattle.vx_json.proofs.Stacks.{stack_view-push, stack_view-nil, length-stack_view}

pub ruleset stacks = (stack_view-push, stack_view-nil, length-stack_view)
