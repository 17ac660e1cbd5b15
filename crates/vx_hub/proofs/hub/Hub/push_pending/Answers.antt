use Rattle.vx_hub.proofs.Moving.{moves_keep}
use Rattle.vx_hub.proofs.Resting.{hub_rests, leaves_rest}
use Rattle.vx_hub.proofs.hub.Hub.push_pending.Goals as goal

pub returns-in-Ok-clause-hub : goal.returns-in-Ok-clause-hub
returns-in-Ok-clause-hub g c = let m = c.push_steps.ensures.moved in
    hub_rests c.requires.hub m.stands (leaves_rest m.leaves m.size (moves_keep m).out) (λ fine. fine)

pub returns-in-Err-clause-hub : goal.returns-in-Err-clause-hub
returns-in-Err-clause-hub g c = let m = c.push_steps.ensures.moved in
    hub_rests c.requires.hub m.stands (leaves_rest m.leaves m.size (moves_keep m).out) (λ fine. cc)
