use Rattle.std.proofs.Common.{◌≡◌, ◌++◌, length}
use Rattle.vx_json.specs.Written.{escapes}
use Rattle.vx_json.specs.Growth.{Keeps}
use Rattle.vx_json.proofs.quote.push_escapes.Given as goal

abbrev pub invariant-loop-b : goal.invariant-loop-b
invariant-loop-b l = record {
  written : l.out ++ escapes l.rest ≡ l.fn.out ++ escapes l.text;
  kept : Keeps l.fn.out l.out;
}

abbrev pub decreases-loop-b : goal.decreases-loop-b
decreases-loop-b l = length l.rest
