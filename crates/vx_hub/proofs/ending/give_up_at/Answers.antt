use Rattle.std.proofs.Common.{◌∙◌, sym}
use Rattle.vx_status.specs.declared.outcome.Outcome.TheVariants.{Abandoned}
use Rattle.vx_moves.specs.Spends.{IsSpendOf}
use Rattle.vx_landing.proofs.LandedEngine.{over_stays}
use Rattle.vx_hub.proofs.Endings.{spends_out, gives_up, unleased_is}
use Rattle.vx_hub.proofs.ending.give_up_at.Goals as goal

pub close_down-requires-clause-unleased : goal.close_down-requires-clause-unleased
close_down-requires-clause-unleased g c =
    let unleased = (unleased_is c.requires.stands c.args.i c.get.ensures).0
    (sym c.is_some.ensures ∙ c.if-not-is_some.false) in spends_out c.give_up.ensures.spent c.args.i ∙ unleased

pub close_down-requires-clause-over : goal.close_down-requires-clause-over
close_down-requires-clause-over g c =
    over_stays (IsSpendOf c.args.i Abandoned) c.args.engine.now.log c.give_up.new.self.log c.give_up.ensures.spent.only c.requires.over

pub returns : goal.returns
returns g c =
    let unleased = (unleased_is c.requires.stands c.args.i c.get.ensures).0
    (sym c.is_some.ensures ∙ c.if-not-is_some.false) in gives_up unleased c.give_up.ensures.spent c.give_up.ensures.bare c.close_down.ensures
