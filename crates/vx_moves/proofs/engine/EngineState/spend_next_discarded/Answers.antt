use Rattle.std.proofs.Common.{◌∙◌, refl}
use Rattle.vx_moves.proofs.Leaving.{each_both}
use Rattle.vx_moves.proofs.Discarding.{discarded_spends, discarded_step, discards_none, may_be_discarded}
use Rattle.vx_moves.proofs.GivingUp.{no_sink}
use Rattle.vx_moves.proofs.Merging.{keeper_there}
use Rattle.vx_moves.proofs.engine.EngineState.spend_next_discarded.Goals as goal

pub next_discarded-requires-clause-there : goal.next_discarded-requires-clause-there
next_discarded-requires-clause-there g c =
    let d = c.args.self.now in
    keeper_there d.keepers.items d.places d.log c.args.i c.requires.stands.keepers c.requires.joins

pub settle-requires : goal.settle-requires
settle-requires g c =
    let d = c.args.self.now in
    let i = c.args.i in
    let s = c.requires.stands in
    let is = may_be_discarded c.next_discarded.new.keepers i c.in-Some.copy s c.requires.joins c.in-Some.ensures.some in
    assumption (is, s.balance, c.spent.ensures.knows d.log c.in-Some.copy.number refl refl (λ class. absurd (no_sink d.log i c.requires.joins class)) s.states is.legal)

pub returns-clause-spent : goal.returns-clause-spent
returns-clause-spent g c =
    discarded_spends c.next_discarded.new.keepers c.args.i c.in-Some.copy c.requires.stands c.requires.joins c.in-Some.ensures.some c.settle.ensures.settled
    (c.settle.ensures.size ∙ c.spent.ensures.size) (each_both _ _ _ c.spent.ensures.stays c.settle.ensures.stays)

pub returns-clause-fewer : goal.returns-clause-fewer
returns-clause-fewer g c _ =
    (discarded_step c.next_discarded.new.keepers c.args.i c.in-Some.copy c.requires.stands c.requires.joins c.in-Some.ensures.some c.settle.ensures.settled
    (c.settle.ensures.size ∙ c.spent.ensures.size) (each_both _ _ _ c.spent.ensures.stays c.settle.ensures.stays)).fewer

pub returns-in_default-clause-spent : goal.returns-in_default-clause-spent
returns-in_default-clause-spent g c = discards_none c.next_discarded.new.keepers c.args.i c.in_default.ensures.same c.requires.stands c.requires.joins

pub returns-in_default-clause-none : goal.returns-in_default-clause-none
returns-in_default-clause-none g c _ = rw c.in_default.ensures.same c.in_default.ensures.none
