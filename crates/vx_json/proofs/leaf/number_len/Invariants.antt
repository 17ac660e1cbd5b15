use Rattle.std.proofs.Common.{take}
use Rattle.vx_json.specs.Walks.{LeadsNumber}
use Rattle.vx_json.proofs.leaf.number_len.Given as goal

abbrev pub invariant-loop-i : goal.invariant-loop-i
invariant-loop-i l = LeadsNumber l.fn.place (take l.i l.bytes) l.place
