use Rattle.std.proofs.Common.{◌≡◌}
use Rattle.vx_record.specs.TallyLists.{tallies_of}
use Rattle.vx_run.proofs.running.tallies.Given as goal

abbrev pub invariant-loop-instance : goal.invariant-loop-instance
invariant-loop-instance g l = l.list ≡ tallies_of l.fn.hub.engine.log l.instance
