use Rattle.std.proofs.Common.{length, ap}
use Rattle.vx_hub.specs.declared.hub.Hub.{Hub}
use Rattle.vx_hub.specs.Pushing.{IsMoveOf}
use Rattle.vx_by_hand.proofs.Spared.{runs_on, moves_spare}
use Rattle.vx_by_hand.proofs.by_hand.push.Goals as goal

pub returns-clause-size : goal.returns-clause-size
returns-clause-size g c =
    ap length (runs_on g.P.Port.observed c.args.hub.now c.push_pending.new.self c.requires.hub c.push_pending.ensures.hub (IsMoveOf c.args.instance) c.push_pending.ensures.only).instances

pub returns-clause-spares : goal.returns-clause-spares
returns-clause-spares g c =
    moves_spare c.args.instance c.args.hub.now.engine.log c.push_pending.new.self.engine.log c.push_pending.ensures.only (λ out. ap (λ (hub : Hub g.row.P.Denot). hub.engine.log) (c.push_pending.ensures.out out).1)
