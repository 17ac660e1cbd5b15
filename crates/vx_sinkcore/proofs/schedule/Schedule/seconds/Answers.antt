use Rattle.std.proofs.Common.{arith}
use Rattle.vx_sinkcore.proofs.Growing.{underway_first, underway_next, underway_last, underway_rises, underway_none}
use Rattle.vx_sinkcore.proofs.schedule.Schedule.seconds.Goals as goal
use Rattle.vx_sinkcore.proofs.schedule.Schedule.seconds.Goals.{else-loop-test, then-loop-test+then-wait-longest, then-wait-longest-via-then-wait-longest, then-wait-longest-via-else-wait-longest+then-next-eq0}

pub loop-init : goal.loop-init
loop-init c = underway_first c.args.self.now.initial_secs c.args.k

pub loop-preserved : goal.loop-preserved
loop-preserved c = underway_next _ _ _ _ _ c.loop.invariant

-- The wait is the k-th, or it is the longest already, or there is none at all.
pub returns : goal.returns
returns c =
    elim c.loop-test.branch [
      | else-loop-test w ↦ omega (arith, underway_last _ _ _ _ _ c.loop.invariant (omega arith))
      | then-loop-test+then-wait-longest w ↦ elim w.then-wait-longest.branch [
        | then-wait-longest-via-then-wait-longest w' ↦ omega (arith, underway_rises _ _ _ _ _ c.loop.invariant (omega arith))
        | then-wait-longest-via-else-wait-longest+then-next-eq0 w' ↦ omega (arith, underway_none _ _ _ _ _ c.loop.invariant (omega arith) (omega arith))
      ]
    ]
