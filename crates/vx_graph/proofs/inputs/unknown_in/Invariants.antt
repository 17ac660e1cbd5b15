use Rattle.std.proofs.Common.{◌≡◌, drop, not, find}
use Rattle.vx_graph.specs.Faults.{unknown_in}
use Rattle.vx_graph.specs.Outputs.{is_known}
use Rattle.vx_graph.proofs.inputs.unknown_in.Given as goal

abbrev pub invariant-loop-input : goal.invariant-loop-input
invariant-loop-input l =
    unknown_in l.nodes l.reader ≡ find (λ input. not (is_known l.nodes l.reader.name input)) (drop l.input-index l.reader.inputs)
