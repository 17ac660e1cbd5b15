use Rattle.std.proofs.Common.{◌≡◌, ℕ, ◌+◌, ◌≤◌, length}
use Rattle.vx_ledger.specs.Copies.{copies_of}
use Rattle.vx_ledger.specs.Ledger.{live_count}
use Rattle.vx_transform.specs.Shelves.{copies_put_out}
use Rattle.vx_component_calls.proofs.keepers.spend_outputs.Given as goal

abbrev pub invariant-loop-output : goal.invariant-loop-output
invariant-loop-output g l =
    (batch place : ℕ) →
    (copies_of batch place (copies_put_out l.rest) ≤ live_count batch place l.batches.open_rows)
    × (live_count batch place l.batches.open_rows + copies_of batch place (copies_put_out l.fn.outputs)
    ≡ live_count batch place l.fn.batches.open_rows + copies_of batch place (copies_put_out l.rest))

abbrev pub decreases-loop-output : goal.decreases-loop-output
decreases-loop-output g l = length l.rest
