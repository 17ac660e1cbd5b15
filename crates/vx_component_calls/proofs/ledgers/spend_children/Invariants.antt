use Rattle.std.proofs.Common.{ℕ, ◌≤◌, length}
use Rattle.vx_ledger.specs.Copies.{copies_of}
use Rattle.vx_ledger.specs.Ledger.{live_count}
use Rattle.vx_ledger.specs.Routing.{copies_in}
use Rattle.vx_component_calls.proofs.ledgers.spend_children.Given as goal

abbrev pub invariant-loop-child : goal.invariant-loop-child
invariant-loop-child g l =
    (batch place : ℕ) → copies_of batch place (copies_in l.rest) ≤ live_count batch place l.batches.open_rows

abbrev pub decreases-loop-child : goal.decreases-loop-child
decreases-loop-child g l = length l.rest
