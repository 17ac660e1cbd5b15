use Rattle.vx_hub.specs.Leases.{NoneFound, class_test}
use Rattle.vx_hub.proofs.ready.first_of.Given as goal

abbrev pub invariant-loop-i : goal.invariant-loop-i
invariant-loop-i g l = NoneFound (class_test l.class) l.engine l.now l.i
