use Rattle.vx_record.proofs.Ceasing.{unabandoned}
use Rattle.vx_hub.proofs.Endings.{abandon_rests, abandons}
use Rattle.vx_hub.proofs.Resting.{hub_rests, rests_both}
use Rattle.vx_hub.proofs.hub.Hub.abandon.Goals as goal

pub abandon-requires-clause-may : goal.abandon-requires-clause-may
abandon-requires-clause-may g c = record { first = unabandoned c.args.self.now.engine.log c.requires.going; reason = c.requires.reason }

pub returns-clause-hub : goal.returns-clause-hub
returns-clause-hub g c = let given = c.abandon.ensures in let up = c.give_up_all.ensures in
    hub_rests c.requires.hub up.stands (rests_both (abandon_rests given.steps given.cause given.capacities given.states) up.rests) (λ sound. sound)

pub returns-clause-cause : goal.returns-clause-cause
returns-clause-cause g c = (abandons c.abandon.ensures.steps c.give_up_all.ensures).1

pub returns-clause-only : goal.returns-clause-only
returns-clause-only g c = (abandons c.abandon.ensures.steps c.give_up_all.ensures).0
