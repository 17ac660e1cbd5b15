use Rattle.vx_moves.proofs.Merging.{failed_made, reserved}
use Rattle.vx_moves.proofs.engine.EngineState.reserve_made.Goals as goal

pub returns-in-Ok-clause-made : goal.returns-in-Ok-clause-made
returns-in-Ok-clause-made g c given made = let e = c.reserve_outputs.ensures in reserved made e.same e.size e.capacities

pub returns-in-Err-clause-short : goal.returns-in-Err-clause-short
returns-in-Err-clause-short g c given made unticked =
    let e = c.reserve_outputs.ensures in
    failed_made {old = record c.args.self.now { places = c.reserve_outputs.new.self }} {slots = c.fail.new.keepers} c.args.i given (reserved made e.same e.size e.capacities) unticked
    c.fail.ensures.short
