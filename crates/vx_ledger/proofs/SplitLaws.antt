-- Laws on the split of copies.
use Rattle.std.proofs.Common.{◌≡◌, ℕ, zero, suc, ◌+◌, ◌-◌, ◌*◌, ◌<◌, List, [], ◌∷◌, ◌++◌, length, sym, arith}
use Rattle.vx_ledger.specs.declared.open_batch.OpenBatch.{OpenBatch}
use Rattle.vx_ledger.specs.Copies.{Copy, copies_of, renumbered, children_of, joined}
use Rattle.vx_ledger.specs.Ledger.{live_count, grown_rows, AreLiveIn}
use Rattle.vx_ledger.proofs.CopyLaws.{children_of_more, copies_of-children_of}
use Rattle.vx_ledger.proofs.RowLaws.{live_count-grown_rows}

-- the children of the last target, and of those before it
pub last_target : (k m : ℕ) → 0 < k → (k - 1) * m + m ≡ k * m
last_target zero m h = grind arith
last_target (suc k) m h = let e : suc k - 1 ≡ k = omega arith in rw e (omega arith)

-- the last target's children stand behind the others
pub children_last : (k first : ℕ) (parent : List Copy) → 0 < k →
    children_of (k - 1) first parent ++ renumbered (first + (k - 1) * length parent) parent ∷ []
    ≡ children_of k first parent
children_last k first parent h =
    let all : k - 1 + 1 ≡ k = omega arith in
    rw all at (sym (children_of_more (k - 1) first parent))

-- a batch has k live copies in the place of each that was split
pub exchange_split : (k first batch place : ℕ) (parent : List Copy) (rs : List OpenBatch) → 0 < k → AreLiveIn rs parent →
    live_count batch place (grown_rows (k - 1) parent rs) + copies_of batch place parent
    ≡ live_count batch place rs + copies_of batch place (joined (children_of k first parent))
exchange_split k first batch place parent rs h live =
    let grown = live_count-grown_rows batch place (k - 1) parent rs (live batch place) in
    let children = copies_of-children_of batch place k first parent in
    let all = last_target k (copies_of batch place parent) h in
    omega (arith, grown, children, all)
