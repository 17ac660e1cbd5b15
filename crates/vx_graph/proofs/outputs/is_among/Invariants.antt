use Rattle.std.proofs.Common.{◌≡◌, drop}
use Rattle.std.specs.List.{list_any}
use Rattle.vx_graph.specs.Outputs.{is_met}
use Rattle.vx_graph.proofs.outputs.is_among.Given as goal

abbrev pub invariant-loop-text : goal.invariant-loop-text
invariant-loop-text l = list_any (λ text. is_met l.reader l.owner l.input text) l.texts ≡ list_any (λ text. is_met l.reader l.owner l.input text) (drop l.text-index l.texts)
