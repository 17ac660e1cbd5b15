use Rattle.std.proofs.Common.{◌≡◌, ◌+◌, ◌++◌, drop, take}
use Rattle.vx_ledger.specs.Copies.{renumbered}
use Rattle.vx_ledger.proofs.finalizers.renumber_all.Given as goal

abbrev pub invariant-loop-finalizer : goal.invariant-loop-finalizer
invariant-loop-finalizer l =
    (l.number ≡ l.first + l.finalizer-index)
    × (l.finalizer-items ≡ renumbered l.first (take l.finalizer-index l.initial.finalizer-items) ++ drop l.finalizer-index l.initial.finalizer-items)
