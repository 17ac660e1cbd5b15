use Rattle.vx_keeping.proofs.Idling.{answered_same}
use Rattle.vx_keeping.proofs.hosted.HostedLineTransform.answer.Goals as goal

pub returns-clause-same : goal.returns-clause-same
returns-clause-same g c =
    let s = c.args.self.now in
    let given = c.give_each-given in
    answered_same (g.T.Transform.held s.transform) (g.T.Transform.held given.new.transform) c.args.taken.now.items given.new.taken.items c.args.shelf.now given.new.shelf
    c.args.left.now.items c.reserve.new.self.items c.leave_all.new.left.items s.idle given.ensures.same c.reserve.ensures.items c.leave_all.ensures.same
