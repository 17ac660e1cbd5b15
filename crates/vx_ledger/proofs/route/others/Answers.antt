use Rattle.std.proofs.Common.{◌-◌, arith, length, take, get_or}
use Rattle.vx_ledger.proofs.RouteLaws.{children_for_last, last_behind}
use Rattle.vx_ledger.proofs.route.others.Goals as goal

pub returns-clause-children : goal.returns-clause-children
returns-clause-children c =
    let targets = c.args.targets.now in
    let last = length targets - 1 in
    rw c.in_ok-others.ensures.children
    (children_for_last targets (take last targets) (get_or targets last 0) c.args.first c.args.parcel.now (last_behind targets last (omega arith)))
