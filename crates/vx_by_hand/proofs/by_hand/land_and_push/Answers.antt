use Rattle.vx_by_hand.proofs.Spared.{others_each}
use Rattle.vx_by_hand.proofs.by_hand.land_and_push.Goals as goal

pub returns-clause-spares : goal.returns-clause-spares
returns-clause-spares g c =
    others_each c.args.landing.instance c.args.hub.now.engine.log c.land.new.hub.engine.log c.push_all.new.hub.engine.log c.land.ensures.only c.push_all.ensures.spares
