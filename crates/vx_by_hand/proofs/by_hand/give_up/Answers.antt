use Rattle.vx_record.specs.declared.abandon_cause.AbandonCause.TheVariants.{WantOfMemory}
use Rattle.vx_by_hand.proofs.Spared.{given_spares}
use Rattle.vx_by_hand.proofs.by_hand.give_up.Goals as goal

pub returns-clause-spares : goal.returns-clause-spares
returns-clause-spares g c = given_spares WantOfMemory c.args.hub.now.engine.log c.abandon.new.self.engine.log c.abandon.ensures.only
