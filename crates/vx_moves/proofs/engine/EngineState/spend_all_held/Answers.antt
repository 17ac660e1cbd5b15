use Rattle.std.proofs.Common.{◌∙◌}
use Rattle.vx_record.specs.Places.Place.{Held}
use Rattle.vx_moves.proofs.Spending.{may_spend_more, may_spend_one, spends_more}
use Rattle.vx_moves.proofs.engine.EngineState.spend_all_held.Goals as goal

pub spend_held-requires-clause-may : goal.spend_held-requires-clause-may
spend_held-requires-clause-may g c = may_spend_one c.loop-outcome.self.log (Held c.args.i) c.args.outcome c.loop-outcome.invariant.may

pub loop-outcome-preserved : goal.loop-outcome-preserved
loop-outcome-preserved g c =
    let was = c.loop-outcome.invariant in
    let one = c.spend_held.ensures.spent c.loop-outcome-test.true in record {
      spent = spends_more (Held c.args.i) was.spent one;
      others = λ q other. one.others q other ∙ was.others q other;
      kept = c.spend_held.ensures.kept;
      may = may_spend_more c.args.i c.args.outcome was.spent.stands.legal was.may one;
    }
