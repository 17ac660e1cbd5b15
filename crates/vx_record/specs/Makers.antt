-- Who makes an entry, and whose it is.
use Rattle.std.specs.Prelude.{◌≡◌, ℕ, true, false, Option, Some, None}
use Rattle.vx_record.specs.declared.entry.Entry.{Entry}
use Rattle.vx_record.specs.declared.entry.Entry.TheVariants.{Install, Lease, Home, Read, Idle, SourceLost, Born, Split, Push, Take, Tick, Answer, Attempt, Spent, Notice, Confirm, Closed, Retired, Abandon}
use Rattle.vx_record.specs.Records.{Record}
use Rattle.vx_record.specs.Tasks.{is_of, out_to}

-- the worker that makes an entry, if one does: that of a Lease, that to which the instance of a task's entry is out, and 0 of an
-- Install
abbrev pub maker : Record → Entry → Option ℕ
maker h (Install version plan once instances now) = Some 0
maker h (Lease i worker now polls) = Some worker
maker h (Home i) = out_to h i
maker h (Read i stream took) = out_to h i
maker h (Idle i failed) = out_to h i
maker h (SourceLost i at failed) = out_to h i
maker h (Born i b place copies events waits stream end) = out_to h i
maker h (Split i ports copies event children) = None
maker h (Push i t s copies) = None
maker h (Take i s copies) = out_to h i
maker h (Tick i now) = out_to h i
maker h (Answer i outputs discarded kept) = out_to h i
maker h (Attempt i copies bytes reply) = out_to h i
maker h (Spent i c outcome) = out_to h i
maker h (Notice b status) = None
maker h (Confirm i positions made) = out_to h i
maker h (Closed i) = out_to h i
maker h (Retired i) = None
maker h (Abandon cause) = None

-- the worker made the entry
abbrev pub IsBy : ℕ → Record → Entry → Type 0
IsBy worker h e = maker h e ≡ Some worker

-- another worker made it, or none
abbrev pub IsByOther : ℕ → Record → Entry → Type 0
IsByOther worker h e = maker h e ≡ Some worker → ⊥

-- no worker made it
abbrev pub IsByNone : Record → Entry → Type 0
IsByNone h e = maker h e ≡ None

-- the entry is of this instance's task, or of none
abbrev pub IsFor : ℕ → Record → Entry → Type 0
IsFor i h e = (j : ℕ) → is_of j e ≡ true → j ≡ i

-- it is of another task, or of none
abbrev pub Spares : ℕ → Record → Entry → Type 0
Spares i h e = is_of i e ≡ false

-- it is of no task
abbrev pub IsOfNone : Record → Entry → Type 0
IsOfNone h e = (j : ℕ) → is_of j e ≡ false
