use Rattle.vx_moves.proofs.Merging.{keeper_there}
use Rattle.vx_moves.proofs.engine.EngineState.has_kept_room.Goals as goal

pub has_room-requires-clause-there : goal.has_room-requires-clause-there
has_room-requires-clause-there g c =
    let d = c.args.self.now in
    keeper_there d.keepers.items d.places d.log c.args.i c.requires.stands.keepers c.requires.joins
