-- Copies in hand, and what a record says of them.
use Rattle.std.specs.Prelude.{ℕ, ◌≡◌, ◌<◌, ◌≤◌, List, [], ◌∷◌}
use Rattle.vx_ledger.specs.Copies.{Copy, numbers_of}
use Rattle.vx_record.specs.declared.child.Child.{Child}
use Rattle.vx_record.specs.Records.{Record}
use Rattle.vx_record.specs.Copies.{count, next_copy, IsLive}
use Rattle.vx_record.specs.Batches.{batch_of}

-- some lists of copies as the children of a split, one for each target
abbrev pub noted : List ℕ → List (List Copy) → List Child
noted [] lists = []
noted targets [] = []
noted (target ∷ targets) (copies ∷ lists) = record { target = target; copies = numbers_of copies } ∷ noted targets lists

-- a copy was made, and carries the batch that it comes from, which stands at the place of its number
pub record IsOfBatch (h : Record) (copy : Copy) : Type 0 where
  pub made : copy.number < next_copy h
  pub batch : batch_of h copy.number ≡ copy.batch
  pub place : copy.place ≡ copy.batch

-- each of some copies, and of several lists
abbrev pub AreOfBatch : Record → List Copy → Type 0
AreOfBatch h [] = Unit {0}
AreOfBatch h (c ∷ cs) = IsOfBatch h c × AreOfBatch h cs

abbrev pub EachOfBatch : Record → List (List Copy) → Type 0
EachOfBatch h [] = Unit {0}
EachOfBatch h (copies ∷ rest) = AreOfBatch h copies × EachOfBatch h rest

-- some copies are live, each of them once, and of the batches that they carry
pub record AreHeld (h : Record) (copies : List Copy) : Type 0 where
  pub of_batch : AreOfBatch h copies
  pub live : (c : ℕ) → 0 < count c (numbers_of copies) → IsLive h c
  pub once : (c : ℕ) → count c (numbers_of copies) ≤ 1
