use Rattle.std.proofs.Common.{List, rules, subst}
use Rattle.toml.specs.View.{view}
use Rattle.vx_graph.specs.declared.node.Node.{Node}
use Rattle.vx_graph.specs.Faults.{IsAccepted, IsFault}
use Rattle.vx_graph.specs.Order.{in_order}
use Rattle.vx_reading.proofs.Judged.{short_judged, memory_judged, fault_here, plan_here, graph_here, conditions_here}
use Rattle.vx_reading.proofs.reading.read_parts.Goals as goal

pub returns-in_err-global-clause-judged : goal.returns-in_err-global-clause-judged
returns-in_err-global-clause-judged c = memory_judged (view c.args.root.now) c.from_residual.result c.from_residual.ensures.1

pub returns-in_err-plan-clause-judged : goal.returns-in_err-plan-clause-judged
returns-in_err-plan-clause-judged c = memory_judged (view c.args.root.now) c.from_residual-in_err-plan.result c.from_residual-in_err-plan.ensures.1

pub returns-in_err-nodes-clause-judged : goal.returns-in_err-nodes-clause-judged
returns-in_err-nodes-clause-judged c = memory_judged (view c.args.root.now) c.from_residual-in_err-nodes.result c.from_residual-in_err-nodes.ensures.1

pub returns-in-Err-WantOfMemory-clause-judged : goal.returns-in-Err-WantOfMemory-clause-judged
returns-in-Err-WantOfMemory-clause-judged c = short_judged (view c.args.root.now)

pub returns-in-Some-clause-judged : goal.returns-in-Some-clause-judged
returns-in-Some-clause-judged c = fault_here (view c.args.root.now) c.in_ok-global.field-0 c.in_ok-global.ensures c.in-Some.fault c.in-Some.ensures.some

pub returns-in-Ok-clause-judged : goal.returns-in-Ok-clause-judged
returns-in-Ok-clause-judged c =
    plan_here (view c.args.root.now) c.in_ok-global.field-0 c.in_ok-global.ensures c.in_default.ensures.none c.in_ok-plan.plan c.in_ok-plan.ensures
    (subst (λ (nodes : List Node). IsAccepted (in_order nodes)) c.in_ok-nodes.ensures c.in-Ok.ensures.accepted)

pub returns-in-Ok-clause-conditions : goal.returns-in-Ok-clause-conditions
returns-in-Ok-clause-conditions c =
    conditions_here (view c.args.root.now) c.in_ok-global.field-0 c.in_ok-global.ensures c.in_default.ensures.none c.in_ok-plan.plan c.in_ok-plan.ensures

pub returns : goal.returns
returns c = record {
  judged = graph_here (view c.args.root.now) c.in_ok-global.field-0 c.in_ok-global.ensures c.in_default.ensures.none c.in_ok-plan.plan c.in_ok-plan.ensures
      c.in-Err.fault (subst (λ (nodes : List Node). IsFault (in_order nodes) c.in-Err.fault) c.in_ok-nodes.ensures c.in-Err.ensures.refused) (search rules);
  conditions = tt;
}
