-- How many copies of a batch are live.
use Rattle.std.specs.Prelude.{ℕ, zero, suc, ◌+◌, if◌then◌else◌, ◌==◌, ◌&&◌}
use Rattle.vx_record.specs.Records.{Record}
use Rattle.vx_record.specs.Copies.{next_copy, times_split, times_spent}
use Rattle.vx_record.specs.Batches.{batch_of}

-- the sum of what is counted at each number below one
abbrev pub sum_below : (ℕ → ℕ) → ℕ → ℕ
sum_below f zero = 0
sum_below f (suc n) = sum_below f n + f n

-- 1 where a copy comes from the batch and was neither split nor spent, else 0
abbrev pub live_in : Record → ℕ → ℕ → ℕ
live_in h b c = if (batch_of h c == b) && (times_split h c + times_spent h c == 0) then 1 else 0

-- how many copies of a batch are live, among all that were made
abbrev pub live_copies : Record → ℕ → ℕ
live_copies h b = sum_below (live_in h b) (next_copy h)
