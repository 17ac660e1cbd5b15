use Rattle.std.proofs.Common.{arith, ◌≡◌, ◌+◌}
use Rattle.vx_ledger.specs.Copies.{copies_of}
use Rattle.vx_ledger.proofs.CopyLaws.{copies_of-append}
use Rattle.vx_component_calls.proofs.ledgers.ledger_of_two_events.Goals as goal

pub halves-left-requires : goal.halves-left-requires
halves-left-requires g c = λ b p.
    omega (arith, c.in_ok-first.ensures b p, copies_of-append b p c.in_ok-first.first c.in_ok-first.second)

pub spend_three-requires : goal.spend_three-requires
spend_three-requires g c = λ b p.
    let merged : copies_of b p c.merged-left.result ≡ copies_of b p c.halves-left.result.0 + copies_of b p c.in_ok-first.second = rw c.merged-left.ensures (copies_of-append b p c.halves-left.result.0 c.in_ok-first.second) in
    omega (
      arith,
      merged,
      c.in_ok-first.ensures b p,
      c.halves-left.ensures b p,
      copies_of-append b p c.in_ok-first.first c.in_ok-first.second,
      copies_of-append b p c.halves-left.result.0 c.halves-left.result.1,
      copies_of-append b p c.merged-left.result c.halves-left.result.1,
    )
