use Rattle.std.proofs.Common.{subst, rules}
use Rattle.vx_graph.specs.Faults.{IsAccepted}
use Rattle.vx_graph.proofs.graph.check_ordered.Goals as goal

pub returns-clause-accepted : goal.returns-clause-accepted
returns-clause-accepted c =
    let free = rw c.in_default-2.is at c.in_ok-texts.ensures in
    subst IsAccepted c.as_slice-slice.ensures (record {
      sources = search rules;
      sinks = search rules;
      inputs = c.in_default.ensures;
      known = c.in_default-first_unknown.ensures;
      acyclic = free;
    })
