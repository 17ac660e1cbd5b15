use Rattle.std.proofs.Common.{arith, ◌+◌}
use Rattle.vx_ledger.proofs.CopyLaws.{numbered_more, each_alone-push}
use Rattle.vx_ledger.specs.Copies.{numbered}
use Rattle.vx_ledger.proofs.alone.each_numbered.Goals as goal

pub loop-i-preserved : goal.loop-i-preserved
loop-i-preserved c =
    let first = c.args.first in
    let more = numbered_more c.loop-i.i first first first in
    let push = each_alone-push (numbered c.loop-i.i first first first) (record { batch = first; number = first + c.loop-i.i; place = first }) in (
      grind (arith, more, push, c.alone.ensures, c.push_reserved.ensures.items, c.loop-i.invariant.0),
      omega (arith, c.push_reserved.ensures.len),
      omega (arith, c.push_reserved.ensures.capacity),
    )
