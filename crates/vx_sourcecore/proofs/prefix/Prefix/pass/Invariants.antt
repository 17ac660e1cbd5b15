use Rattle.std.proofs.Common.{◌≡◌}
use Rattle.vx_sourcecore.specs.Prefixes.{passed_in}
use Rattle.vx_sourcecore.proofs.Prefixing.{passed_from}
use Rattle.vx_sourcecore.proofs.prefix.Prefix.pass.Given as goal

abbrev pub invariant-loop-i : goal.invariant-loop-i
invariant-loop-i l = record {
  same : l.self ≡ l.fn.self;
  before : passed_in l.fn.batch l.fn.self.behind.items ≡ passed_from l.fn.batch l.i l.fn.self.behind.items;
}
