use Rattle.vx_moves.specs.Keepers.{keeper_at}
use Rattle.vx_moves.proofs.Merging.{keeper_there, none_kept}
use Rattle.vx_moves.proofs.engine.EngineState.keeps_none.Goals as goal

pub keeps_none-requires-clause-there : goal.keeps_none-requires-clause-there
keeps_none-requires-clause-there g c =
    let d = c.args.self.now in
    keeper_there d.keepers.items d.places d.log c.args.i c.requires.stands.keepers c.requires.joins

pub returns : goal.returns
returns g c =
    let d = c.args.self.now in
    let s = c.requires.stands in
    none_kept d.log c.args.i c.keeps_none.result (keeper_at d.keepers.items c.args.i) s.legal (s.keeps c.args.i) c.keeps_none.ensures.exact
