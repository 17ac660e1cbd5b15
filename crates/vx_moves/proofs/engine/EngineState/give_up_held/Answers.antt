use Rattle.std.proofs.Common.{◌∙◌, sym}
use Rattle.vx_moves.proofs.Spending.{may_give_up_held}
use Rattle.vx_moves.proofs.engine.EngineState.give_up_held.Goals as goal

pub spend_all_held-requires-clause-kept : goal.spend_all_held-requires-clause-kept
spend_all_held-requires-clause-kept g c =
    c.requires.stands.kept c.args.i c.requires.unleased (sym c.merges.ensures ∙ c.if-merges.false)

pub spend_all_held-requires-clause-may : goal.spend_all_held-requires-clause-may
spend_all_held-requires-clause-may g c = may_give_up_held c.args.self.now.log c.args.i c.requires.over c.requires.unleased
