-- The entries of one instance's task: those that name the instance as their own. What they say by themselves, entries of others keep.
use Rattle.std.specs.Prelude.{◌≡◌, ℕ, Bool, false, Option, Some, None, [], ◌∷◌, ◌==◌, if◌then◌else◌}
use Rattle.vx_record.specs.declared.entry.Entry.{Entry}
use Rattle.vx_record.specs.declared.entry.Entry.TheVariants.{Install, Lease, Home, Read, Idle, SourceLost, Born, Split, Push, Take, Tick, Answer, Attempt, Spent, Notice, Confirm, Closed, Retired, Abandon}
use Rattle.vx_record.specs.Records.{Record}

-- the instance whose task an entry is of; none for what concerns all of them, a batch or the run. A Push is of the instance that
-- sends, and leaves the task of its target
abbrev pub of_task : Entry → Option ℕ
of_task (Install version plan once instances now) = None
of_task (Lease i worker now polls) = Some i
of_task (Home i) = Some i
of_task (Read i stream took) = Some i
of_task (Idle i failed) = Some i
of_task (SourceLost i at failed) = Some i
of_task (Born i b place copies events waits stream end) = Some i
of_task (Split i ports copies event children) = Some i
of_task (Push i t s copies) = Some i
of_task (Take i s copies) = Some i
of_task (Tick i now) = Some i
of_task (Answer i outputs discarded kept) = Some i
of_task (Attempt i copies bytes reply) = Some i
of_task (Spent i c outcome) = Some i
of_task (Notice b status) = None
of_task (Confirm i positions made) = Some i
of_task (Closed i) = Some i
of_task (Retired i) = Some i
of_task (Abandon cause) = None

-- whether a number is there, and is this one
abbrev pub is_number : ℕ → Option ℕ → Bool
is_number i None = false
is_number i (Some j) = j == i

-- whether an entry is of the instance's task
abbrev pub is_of : ℕ → Entry → Bool
is_of i e = is_number i (of_task e)

-- the entries of the instance's task, the newest first
abbrev pub mine : Record → ℕ → Record
mine [] i = []
mine (e ∷ h) i = let rest = mine h i in if is_of i e then e ∷ rest else rest

-- the worker that the instance is out to
abbrev pub out_to : Record → ℕ → Option ℕ
out_to [] i = None
out_to (Lease j worker now polls ∷ h) i = if j == i then Some worker else out_to h i
out_to (Home j ∷ h) i = if j == i then None else out_to h i
out_to (e ∷ h) i = out_to h i

-- what is said of an instance is a function of the entries of its task
abbrev pub IsOwn : {X : Type 0} → (Record → ℕ → X) → Type 0
IsOwn f = (h : Record) (i : ℕ) → f h i ≡ f (mine h i) i
