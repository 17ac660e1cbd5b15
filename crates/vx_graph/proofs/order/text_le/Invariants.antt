use Rattle.std.proofs.Common.{◌≡◌, ◌≤◌, ◌-◌, drop, length}
use Rattle.vx_value.specs.Texts.{text_le}
use Rattle.vx_graph.proofs.order.text_le.Given as goal

abbrev pub invariant-bytes : goal.invariant-bytes
invariant-bytes l = record {
  same : text_le l.a l.b ≡ text_le (drop l.i l.a) (drop l.i l.b);
  within : l.i ≤ length l.a;
}

abbrev pub decreases-bytes : goal.decreases-bytes
decreases-bytes l = length l.a - l.i
