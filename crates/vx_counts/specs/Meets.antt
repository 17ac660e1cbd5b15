-- When the counts that are kept of an instance are those of a record so far.
use Rattle.std.specs.Prelude.{ℕ, ◌≡◌, ◌==◌, ◌&&◌, true, false, ◌+◌, List, [], ◌∷◌}
use Rattle.vx_status.specs.declared.outcome.Outcome.TheVariants.{NewestDropped}
use Rattle.vx_record.specs.declared.tally.Tally.{Tally}
use Rattle.vx_record.specs.declared.entry.Entry.{Entry}
use Rattle.vx_record.specs.declared.entry.Entry.TheVariants.{Install, Lease, Home, Read, Idle, SourceLost, Born, Split, Push, Take, Tick, Answer, Attempt, Spent, Notice, Confirm, Closed, Retired, Abandon}
use Rattle.vx_record.specs.Records.{Record}
use Rattle.vx_record.specs.Tallies.{tally, is_batch_of}
use Rattle.vx_counts.specs.Spends.{SpendsElsewhere, SpendsHere}

-- what is kept of an instance is its tally
abbrev pub Meets : ℕ → Record → Tally → Type 0
Meets i h kept = kept ≡ tally h i

-- what is kept of several instances, from a number on
abbrev pub EachMeets : Record → ℕ → List Tally → Type 0
EachMeets h i [] = Unit {0}
EachMeets h i (kept ∷ rest) = Meets i h kept × EachMeets h (i + 1) rest

-- an entry that counts for other instances alone, or for none
abbrev pub LeavesBe : Record → ℕ → Entry → Type 0
LeavesBe h i (Install version plan once instances now) = Unit {0}
LeavesBe h i (Lease j worker now polls) = Unit {0}
LeavesBe h i (Home j) = Unit {0}
LeavesBe h i (Read j stream took) = (j == i) ≡ false
LeavesBe h i (Idle j failed) = Unit {0}
LeavesBe h i (SourceLost j after failed) = Unit {0}
LeavesBe h i (Born j b place copies events waits stream end) = (j == i) ≡ false
LeavesBe h i (Split j ports copies event children) = Unit {0}
LeavesBe h i (Push j t s copies) = Unit {0}
LeavesBe h i (Take j s copies) = (j == i) ≡ false
LeavesBe h i (Tick j now) = Unit {0}
LeavesBe h i (Answer j outputs discarded kept) = (j == i) ≡ false
LeavesBe h i (Attempt j copies bytes reply) = (j == i) ≡ false
LeavesBe h i (Spent j c outcome) = SpendsElsewhere h i c outcome
LeavesBe h i (Notice b status) = is_batch_of h i b ≡ false
LeavesBe h i (Confirm j positions made) = ((j == i) && made) ≡ false
LeavesBe h i (Closed j) = Unit {0}
LeavesBe h i (Retired j) = Unit {0}
LeavesBe h i (Abandon cause) = Unit {0}

-- what may count for an instance though it is of another task, or of none: a notice, and a copy that its sender drops as the newest
abbrev pub ComesFromOthers : Entry → Type 0
ComesFromOthers (Notice b status) = Unit {0}
ComesFromOthers (Spent j c NewestDropped) = Unit {0}
ComesFromOthers e = ⊥

-- an entry that counts for the instance
abbrev pub CountsFor : Record → ℕ → Entry → Type 0
CountsFor h i (Install version plan once instances now) = ⊥
CountsFor h i (Lease j worker now polls) = ⊥
CountsFor h i (Home j) = ⊥
CountsFor h i (Read j stream took) = j ≡ i
CountsFor h i (Idle j failed) = ⊥
CountsFor h i (SourceLost j after failed) = ⊥
CountsFor h i (Born j b place copies events waits stream end) = j ≡ i
CountsFor h i (Split j ports copies event children) = ⊥
CountsFor h i (Push j t s copies) = ⊥
CountsFor h i (Take j s copies) = j ≡ i
CountsFor h i (Tick j now) = ⊥
CountsFor h i (Answer j outputs discarded kept) = j ≡ i
CountsFor h i (Attempt j copies bytes reply) = j ≡ i
CountsFor h i (Spent j c outcome) = SpendsHere h i c outcome
CountsFor h i (Notice b status) = is_batch_of h i b ≡ true
CountsFor h i (Confirm j positions made) = (j ≡ i) × (made ≡ true)
CountsFor h i (Closed j) = ⊥
CountsFor h i (Retired j) = ⊥
CountsFor h i (Abandon cause) = ⊥
