use Rattle.vx_instances.specs.Knowing.{IsKnown}
use Rattle.vx_landing.proofs.Deciding.{decided_last}
use Rattle.vx_landing.proofs.landing.decides.Goals as goal

pub returns-in-Failed : goal.returns-in-Failed
returns-in-Failed g c =
    let known : IsKnown g.P.Port.observed c.get-state.result.now c.args.engine.now.log c.args.i = rw c.get-state.ensures at (c.requires.stands.states.each c.args.i) in
    rw c.in-Failed.is (decided_last c.get-state.result.now c.args.engine.now.log c.args.i g.P.Port.observed c.is_last.result c.requires.stands.legal known c.requires.may c.is_last.ensures)
