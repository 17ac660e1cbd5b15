use Rattle.std.proofs.Common.{◌∙◌}
use Rattle.vx_moves.proofs.engine.EngineState.merges.Goals as goal

pub returns : goal.returns
returns g c = c.is_there.ensures ∙ c.requires.stands.keepers.whose c.args.i
