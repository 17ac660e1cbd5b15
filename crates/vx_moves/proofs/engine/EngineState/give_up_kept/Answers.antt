use Rattle.std.proofs.Common.{◌∙◌, refl}
use Rattle.vx_moves.proofs.Leaving.{each_both}
use Rattle.vx_moves.proofs.GivingUp.{emptied_none, emptied_spends, given_up_step, may_be_lost, no_sink}
use Rattle.vx_moves.proofs.Merging.{keeper_there}
use Rattle.vx_moves.proofs.engine.EngineState.give_up_kept.Goals as goal

pub lose-requires-clause-there : goal.lose-requires-clause-there
lose-requires-clause-there g c =
    let d = c.args.self.now in
    keeper_there d.keepers.items d.places d.log c.args.i c.requires.stands.keepers c.requires.joins

pub settle-requires : goal.settle-requires
settle-requires g c =
    let d = c.args.self.now in
    let i = c.args.i in
    let s = c.requires.stands in
    let is = may_be_lost c.lose.new.keepers i c.in-Some.copy s c.requires.joins c.requires.over c.requires.unleased c.in-Some.ensures.some in
    assumption (is, s.balance, c.spent.ensures.knows d.log c.in-Some.copy.number refl refl (λ class. absurd (no_sink d.log i c.requires.joins class)) s.states is.legal)

pub returns-clause-spent : goal.returns-clause-spent
returns-clause-spent g c =
    let lost = given_up_step c.lose.new.keepers c.args.i c.in-Some.copy c.requires.stands c.requires.joins c.requires.over c.requires.unleased c.in-Some.ensures.some c.settle.ensures.settled
    (c.settle.ensures.size ∙ c.spent.ensures.size) (each_both _ _ _ c.spent.ensures.stays c.settle.ensures.stays) in
    assumption lost

pub returns-clause-fewer : goal.returns-clause-fewer
returns-clause-fewer g c _ =
    (given_up_step c.lose.new.keepers c.args.i c.in-Some.copy c.requires.stands c.requires.joins c.requires.over c.requires.unleased c.in-Some.ensures.some c.settle.ensures.settled
    (c.settle.ensures.size ∙ c.spent.ensures.size) (each_both _ _ _ c.spent.ensures.stays c.settle.ensures.stays)).fewer

pub returns-in_default-clause-spent : goal.returns-in_default-clause-spent
returns-in_default-clause-spent g c = emptied_spends c.lose.new.keepers c.args.i c.requires.stands c.in_default.ensures.none

pub returns-in_default-clause-none : goal.returns-in_default-clause-none
returns-in_default-clause-none g c _ = emptied_none c.lose.new.keepers c.args.i c.requires.stands c.in_default.ensures.none
