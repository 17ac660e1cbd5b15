-- The plans of the examples may be installed. Their graphs have no cycle: each component has a higher rank than those that read
-- it, by ranks that are given in the order of the components' names.
use Rattle.std.proofs.Common.{◌≡◌, ℕ, Bool, true, false, Option, None, Some, List, [], ◌∷◌, refl}
use Rattle.std.specs.Prelude.{is_some}
use Rattle.std.specs.List.{list_any, list_all}
use Rattle.vx_graph.specs.declared.node.Node.{Node}
use Rattle.vx_graph.specs.Classes.{is_source, is_sink}
use Rattle.vx_graph.specs.Faults.{first_bare, first_unknown}
use Rattle.vx_graph.specs.Order.{in_order}
use Rattle.vx_graph.specs.Outputs.{rows_of}
use Rattle.vx_graph.proofs.Ranks.{ranks_fall, no_cycle}
use Rattle.vx_plan.specs.declared.plan.Plan.{Plan}
use Rattle.vx_plan.specs.Accepted.{names_differ, fits_class, has_stage, IsPlan}
use Rattle.vx_plan.specs.Graphs.{nodes_of}

-- what some nodes are asked, and what is asked of a plan
abbrev about_nodes : List ℕ → List Node → List Bool
about_nodes ranks nodes =
    list_any is_source nodes ∷ list_any is_sink nodes ∷ is_some (first_bare nodes) ∷ is_some (first_unknown nodes)
    ∷ ranks_fall ranks (rows_of nodes) ∷ []

abbrev about : List ℕ → Plan → List Bool
about ranks plan =
    names_differ plan.components ∷ list_all fits_class plan.components ∷ list_all has_stage plan.components
    ∷ about_nodes ranks (in_order (nodes_of plan))

nothing_is : {X : Type 0} (o : Option X) → is_some o ≡ false → o ≡ None
nothing_is None none = refl
nothing_is (Some x) none = absurd (cc)

pub stands : (ranks : List ℕ) (plan : Plan) → about ranks plan ≡ true ∷ true ∷ true ∷ true ∷ true ∷ false ∷ false ∷ true ∷ [] → IsPlan plan
stands ranks plan same =
    let nodes : List Node = in_order (nodes_of plan) in
    record {
      named = cc;
      fitting = cc;
      staged = cc;
      accepted = record {
        sources = cc;
        sinks = cc;
        inputs = nothing_is (first_bare nodes) cc;
        known = nothing_is (first_unknown nodes) cc;
        acyclic = no_cycle ranks nodes cc;
      };
    }
