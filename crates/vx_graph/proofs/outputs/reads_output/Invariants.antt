use Rattle.std.proofs.Common.{◌≡◌, drop}
use Rattle.std.specs.List.{list_any}
use Rattle.vx_graph.specs.Outputs.{is_met, reads_output}
use Rattle.vx_graph.proofs.outputs.reads_output.Given as goal

abbrev pub invariant-loop-input : goal.invariant-loop-input
invariant-loop-input l = reads_output l.reader l.owner l.text ≡ list_any (λ input. is_met l.reader.name l.owner input l.text) (drop l.input-index l.reader.inputs)
