use Rattle.std.proofs.Common.{◌∙◌, sym}
use Rattle.vx_run.proofs.Picking.{host_slot}
use Rattle.vx_run.proofs.transforms.keeper_of.Goals as goal

pub returns-in_ok-hosting-in-None-clause-keeper : goal.returns-in_ok-hosting-in-None-clause-keeper
returns-in_ok-hosting-in-None-clause-keeper c =
    let made = c.in_ok-hosting-in-None.ensures in
    host_slot c.args.component.now c.in_ok-hosting-in-None.field-0 c.requires.merges (sym c.in-None.is ∙ c.in_ok-settings.ensures) made.fit made.discarded made.keeps
