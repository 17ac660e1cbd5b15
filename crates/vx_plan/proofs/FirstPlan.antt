-- The plan of the small configuration may be installed.
use Rattle.std.proofs.Common.{[], ◌∷◌, refl}
use Rattle.vx_graph.specs.Order.{in_order, enter}
use Rattle.vx_graph.specs.Faults.{IsAccepted}
use Rattle.vx_graph.proofs.Ranks.{no_cycle}
use Rattle.vx_plan.specs.Accepted.{IsPlan}
use Rattle.vx_plan.specs.First.{first_plan}
use Rattle.vx_plan.specs.Graphs.{nodes_of}

-- the sink reads the source
first_accepted : IsAccepted (in_order (nodes_of first_plan))
unfolding in_order enter
first_accepted = record { sources = refl; sinks = refl; inputs = refl; known = refl; acyclic = no_cycle (1 ∷ 0 ∷ []) (in_order (nodes_of first_plan)) refl }

pub first_stands : IsPlan first_plan
first_stands = record { named = refl; fitting = refl; staged = refl; accepted = first_accepted }
