use Rattle.std.proofs.Common.{◌≡◌, ◌+◌, ◌≤◌, drop}
use Rattle.std.specs.Prelude.{count_by}
use Rattle.vx_ledger.specs.Copies.{numbers_of}
use Rattle.vx_keeping.specs.Given.{is_among}
use Rattle.vx_keeping.proofs.hosting.count_among.Given as goal

-- those that are left make the count whole, and so many were counted at the most
abbrev pub invariant-loop-copy : goal.invariant-loop-copy
invariant-loop-copy l =
    (l.count + count_by (is_among l.numbers) (numbers_of (drop l.copy-index l.copies)) ≡ count_by (is_among l.numbers) (numbers_of l.copies)) × (l.count ≤ l.copy-index)
