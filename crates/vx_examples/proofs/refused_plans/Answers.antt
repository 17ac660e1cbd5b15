use Rattle.std.proofs.Common.{[], ◌∷◌, codes}
use Rattle.vx_graph.specs.Order.{in_order, enter}
use Rattle.vx_examples.specs.RefusedPlans.{two_of_one_name, source_that_writes, source_that_listens, sink_without_a_stage, no_source, no_sink, sink_without_an_input, input_of_nobody, filters_in_a_round}
use Rattle.vx_examples.proofs.Refusals.{never}
use Rattle.vx_examples.proofs.Reasons.{is_round}
use Rattle.vx_examples.proofs.refused_plans.Goals as goal

pub returns-clause-sink_without_an_input : goal.returns-clause-sink_without_an_input
unfolding in_order enter
returns-clause-sink_without_an_input c = never sink_without_an_input (λ l. let e = l.0.row.accepted.accepted.inputs in cc)

pub returns-clause-source_that_writes : goal.returns-clause-source_that_writes
returns-clause-source_that_writes c = never source_that_writes (λ l. let e = l.0.row.accepted.fitting in cc)

pub returns-clause-source_that_listens : goal.returns-clause-source_that_listens
returns-clause-source_that_listens c = never source_that_listens (λ l. let e = l.0.row.accepted.fitting in cc)

pub returns-clause-two_of_one_name : goal.returns-clause-two_of_one_name
returns-clause-two_of_one_name c = never two_of_one_name (λ l. let e = l.0.row.accepted.named in cc)

pub returns-clause-no_source : goal.returns-clause-no_source
unfolding in_order enter
returns-clause-no_source c = never no_source (λ l. let e = l.0.row.accepted.accepted.sources in cc)

pub returns-clause-filters_in_a_round : goal.returns-clause-filters_in_a_round
returns-clause-filters_in_a_round c = never filters_in_a_round (λ l. l.0.row.accepted.accepted.acyclic (codes "f" ∷ codes "g" ∷ []) is_round)

pub returns-clause-no_sink : goal.returns-clause-no_sink
unfolding in_order enter
returns-clause-no_sink c = never no_sink (λ l. let e = l.0.row.accepted.accepted.sinks in cc)

pub returns-clause-input_of_nobody : goal.returns-clause-input_of_nobody
unfolding in_order enter
returns-clause-input_of_nobody c = never input_of_nobody (λ l. let e = l.0.row.accepted.accepted.known in cc)

pub returns-clause-sink_without_a_stage : goal.returns-clause-sink_without_a_stage
returns-clause-sink_without_a_stage c = never sink_without_a_stage (λ l. let e = l.0.row.accepted.staged in cc)
