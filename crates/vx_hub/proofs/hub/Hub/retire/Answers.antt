use Rattle.std.proofs.Common.{ap}
use Rattle.vx_record.specs.Records.{Record}
use Rattle.vx_record.specs.Turns.{is_out}
use Rattle.vx_hub.proofs.Resting.{hub_rests, leaves_rest}
use Rattle.vx_hub.proofs.hub.Hub.retire.Goals as goal

pub returns-clause-hub : goal.returns-clause-hub
returns-clause-hub g c = let steps = c.retire.ensures.steps in
    hub_rests c.requires.hub steps.stands (leaves_rest c.retire.ensures.leaves steps.size (λ j. ap (λ (h : Record). is_out h j) steps.noted)) (λ sound. sound)
