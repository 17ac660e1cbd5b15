-- The moments of a record, and whom its tasks were handed out to.
use Rattle.std.specs.Prelude.{◌≡◌, ℕ, [], ◌∷◌}
use Rattle.vx_record.specs.declared.abandon_cause.AbandonCause.TheVariants.{Grace, Numbers, WantOfMemory}
use Rattle.vx_record.specs.declared.entry.Entry.{Entry}
use Rattle.vx_record.specs.declared.entry.Entry.TheVariants.{Install, Lease, Home, Read, Idle, SourceLost, Born, Split, Push, Take, Tick, Answer, Attempt, Spent, Notice, Confirm, Closed, Retired, Abandon}
use Rattle.vx_record.specs.Records.{Record}

-- an entry tells no moment, and hands out nothing
abbrev pub IsTimeless : Record → Entry → Type 0
IsTimeless h (Install version plan once instances now) = ⊥
IsTimeless h (Lease i worker now polls) = ⊥
IsTimeless h (Tick i now) = ⊥
IsTimeless h (Abandon (Grace moment now limit)) = ⊥
IsTimeless h (Abandon (Numbers next wanted)) = Unit {0}
IsTimeless h (Abandon WantOfMemory) = Unit {0}
IsTimeless h (Home i) = Unit {0}
IsTimeless h (Read i stream took) = Unit {0}
IsTimeless h (Idle i failed) = Unit {0}
IsTimeless h (SourceLost i at failed) = Unit {0}
IsTimeless h (Born i b place copies events waits stream end) = Unit {0}
IsTimeless h (Split i ports copies event children) = Unit {0}
IsTimeless h (Push i t s copies) = Unit {0}
IsTimeless h (Take i s copies) = Unit {0}
IsTimeless h (Answer i outputs discarded kept) = Unit {0}
IsTimeless h (Attempt i copies bytes reply) = Unit {0}
IsTimeless h (Spent i c outcome) = Unit {0}
IsTimeless h (Notice b status) = Unit {0}
IsTimeless h (Confirm i positions made) = Unit {0}
IsTimeless h (Closed i) = Unit {0}
IsTimeless h (Retired i) = Unit {0}

-- each moment that an entry tells is one that was given, and a lease is to the only worker
abbrev pub IsTimely : (ℕ → Type 0) → Record → Entry → Type 0
IsTimely Gave h (Install version plan once instances now) = Gave now
IsTimely Gave h (Lease i worker now polls) = Gave now × (worker ≡ 0)
IsTimely Gave h (Tick i now) = Gave now
IsTimely Gave h (Abandon (Grace moment now limit)) = Gave moment × Gave now
IsTimely Gave h other = IsTimeless h other

-- so is each entry of a record
abbrev pub AreTimely : (ℕ → Type 0) → Record → Type 0
AreTimely Gave [] = Unit {0}
AreTimely Gave (e ∷ h) = IsTimely Gave h e × AreTimely Gave h
