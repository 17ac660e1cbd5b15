use Rattle.std.proofs.Common.{◌≡◌}
use Rattle.vx_sourcecore.specs.Prefixes.{kept_before, has_failed}
use Rattle.vx_sourcecore.proofs.Prefixing.{kept_from, failed_from}
use Rattle.vx_sourcecore.proofs.prefix.Prefix.block.Given as goal

abbrev pub invariant-loop-i : goal.invariant-loop-i
invariant-loop-i l = record {
  same : l.self ≡ l.fn.self;
  kept : kept_before l.fn.batch l.fn.self.behind.items ≡ kept_from l.fn.batch l.i l.fn.self.behind.items;
  failed : has_failed l.fn.batch l.fn.self.behind.items ≡ failed_from l.fn.batch l.i l.fn.self.behind.items;
}
