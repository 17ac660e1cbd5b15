-- The batches, in the order of their births.
use Rattle.std.specs.Prelude.{ℕ, ◌+◌, ◌==◌, ◌≡◌, ◌⊎◌, List, [], ◌∷◌, ◌++◌, if◌then◌else◌}
use Rattle.vx_ledger.specs.declared.open_batch.OpenBatch.{OpenBatch}
use Rattle.vx_record.specs.declared.entry.Entry.TheVariants.{Born}
use Rattle.vx_record.specs.Records.{Record}
use Rattle.vx_record.specs.Confirms.{is_noticed}

-- a batch, and the instance that created it
pub record Batch : Type 0 where
  pub number : ℕ
  pub creator : ℕ

-- all batches
abbrev pub born : Record → List Batch
born [] = []
born (Born i b place copies events waits stream end ∷ h) = born h ++ record { number = b; creator = i } ∷ []
born (e ∷ h) = born h

-- those of some that have no notice
abbrev pub without_notice : Record → List Batch → List Batch
without_notice h [] = []
without_notice h (x ∷ xs) = if is_noticed h x.number then without_notice h xs else x ∷ without_notice h xs

-- all that have none
abbrev pub unnoticed : Record → List Batch
unnoticed h = without_notice h (born h)

-- the batches of some rows
abbrev pub batches_in : List OpenBatch → List Batch
batches_in [] = []
batches_in (r ∷ rs) = record { number = r.number; creator = r.instance } ∷ batches_in rs

-- a batch is among some
abbrev pub IsAmong : Batch → List Batch → Type 0
IsAmong x [] = ⊥
IsAmong x (y ∷ ys) = (y ≡ x) ⊎ IsAmong x ys

-- how many of some batches an instance created
abbrev pub created_by : ℕ → List Batch → ℕ
created_by i [] = 0
created_by i (x ∷ xs) = (if x.creator == i then 1 else 0) + created_by i xs
