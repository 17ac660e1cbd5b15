use Rattle.std.proofs.Common.{◌≤◌, sym, subst}
use Rattle.vx_keeping.proofs.Idling.{moved_none, moved_same, moved_named}
use Rattle.vx_keeping.proofs.hosted.HostedLineTransform.flush.Goals as goal

pub invariant_of-self : goal.invariant_of-self
invariant_of-self g c =
    let s = c.args.self.now in
    let held = g.T.Transform.held in
    record {
      idle = moved_none _ (held s.transform) (held c.flush.new.self) c.args.shelf.now c.flush.new.shelf c.flush.ensures.moves s.idle;
      few = subst (λ n. n ≤ 65) (sym c.flush.ensures.ports) s.few;
    }

pub returns-clause-same : goal.returns-clause-same
returns-clause-same g c =
    let s = c.args.self.now in
    moved_same _ (g.T.Transform.held s.transform) (g.T.Transform.held c.flush.new.self) c.args.shelf.now c.flush.new.shelf c.flush.ensures.moves s.idle

pub returns-clause-named : goal.returns-clause-named
returns-clause-named g c =
    let s = c.args.self.now in
    moved_named (g.T.Transform.port_count s.transform) (g.T.Transform.held s.transform) (g.T.Transform.held c.flush.new.self) c.args.shelf.now c.flush.new.shelf c.flush.ensures.moves s.few
