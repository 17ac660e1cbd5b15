use Rattle.vx_keeping.proofs.Idling.{left_same}
use Rattle.vx_transform.specs.Shelves.{copies_dropped, copies_on}
use Rattle.vx_keeping.proofs.host_list.HostListHosts.answer.Goals as goal

pub returns-in-None-clause-same : goal.returns-in-None-clause-same
returns-in-None-clause-same g c =
    left_same (copies_dropped c.args.taken.now.items) (copies_dropped c.leave_line.new.taken.items) (copies_on c.args.shelf.now) c.args.left.now.items c.leave_line.new.left.items
    c.leave_line.ensures.same
