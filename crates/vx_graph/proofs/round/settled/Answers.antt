use Rattle.std.proofs.Common.{◌∙◌, ap, sym, rules}
use Rattle.vx_graph.specs.Rounds.{marked}
use Rattle.vx_graph.proofs.Rounds.{mark_settled}
use Rattle.vx_graph.proofs.round.settled.Goals as goal

pub marking-preserved : goal.marking-preserved
marking-preserved c = record {
  same_len = search rules;
  settled = mark_settled _ c.marking.marks.items c.in-Some.i (search rules) c.marking.invariant.settled
      (λ j r. ap (λ m. marked m j) (sym c.as_slice.ensures.value) ∙ c.in-Some.ensures.2 j r);
}
