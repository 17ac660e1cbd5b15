use Rattle.vx_moves.specs.Keepers.{keeper_at}
use Rattle.vx_moves.proofs.Merging.{checks_all, checks_only, keeper_there}
use Rattle.vx_moves.proofs.engine.EngineState.check_due.Goals as goal

pub due-requires-clause-there : goal.due-requires-clause-there
due-requires-clause-there g c =
    let d = c.args.self.now in
    keeper_there d.keepers.items d.places d.log c.args.i c.requires.stands.keepers c.requires.joins

pub returns-clause-due : goal.returns-clause-due
returns-clause-due g c =
    let d = c.args.self.now in
    (checks_all d.log c.args.i c.due.result (keeper_at d.keepers.items c.args.i) (c.requires.stands.keeps c.args.i) c.due.ensures.due).0

pub returns-clause-none : goal.returns-clause-none
returns-clause-none g c =
    let d = c.args.self.now in
    (checks_all d.log c.args.i c.due.result (keeper_at d.keepers.items c.args.i) (c.requires.stands.keeps c.args.i) c.due.ensures.due).1

pub returns-clause-only : goal.returns-clause-only
returns-clause-only g c fit no_host none now tick =
    let d = c.args.self.now in
    checks_only d.log c.args.i c.due.result (keeper_at d.keepers.items c.args.i) (c.requires.stands.keeps c.args.i) fit c.due.ensures.only no_host none now tick
