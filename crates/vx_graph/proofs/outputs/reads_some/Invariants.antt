use Rattle.std.proofs.Common.{◌≡◌, drop}
use Rattle.std.specs.List.{list_any}
use Rattle.vx_graph.specs.Outputs.{reads_output}
use Rattle.vx_graph.proofs.outputs.reads_some.Given as goal

abbrev pub invariant-loop-text : goal.invariant-loop-text
invariant-loop-text l = list_any (λ text. reads_output l.reader l.owner text) l.texts ≡ list_any (λ text. reads_output l.reader l.owner text) (drop l.text-index l.texts)
