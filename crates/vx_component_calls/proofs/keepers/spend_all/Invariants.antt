use Rattle.std.proofs.Common.{◌≡◌, ℕ, ◌+◌, ◌≤◌, length}
use Rattle.vx_ledger.specs.Copies.{copies_of}
use Rattle.vx_ledger.specs.Ledger.{live_count}
use Rattle.vx_component_calls.proofs.keepers.spend_all.Given as goal

abbrev pub invariant-loop-copy : goal.invariant-loop-copy
invariant-loop-copy l =
    (batch place : ℕ) →
    (copies_of batch place l.rest ≤ live_count batch place l.batches.open_rows)
    × (live_count batch place l.batches.open_rows + copies_of batch place l.fn.copies
    ≡ live_count batch place l.fn.batches.open_rows + copies_of batch place l.rest)

abbrev pub decreases-loop-copy : goal.decreases-loop-copy
decreases-loop-copy l = length l.rest
