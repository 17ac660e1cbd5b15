-- What entries of other tasks leave, and who changes a task that is out.
use Rattle.std.specs.Prelude.{◌≡◌, ◌≢◌, ◌<◌, ℕ, true, false, Some, None, is_some, List, [], ◌∷◌, ◌++◌, ◌==◌, if◌then◌else◌}
use Rattle.vx_record.specs.declared.entry.Entry.{Entry}
use Rattle.vx_record.specs.declared.entry.Entry.TheVariants.{Lease, Take}
use Rattle.vx_record.specs.Records.{Record}
use Rattle.vx_record.specs.Turns.{is_out, at_lease}
use Rattle.vx_record.specs.Copies.{count, all_of, times_spent}
use Rattle.vx_record.specs.Lists.{outputs, waiting, contents, held}
use Rattle.vx_record.specs.Reads.{taken, ended_streams}
use Rattle.vx_record.specs.Encoding.{given}
use Rattle.vx_record.specs.Confirms.{confirmed}
use Rattle.vx_record.specs.Ready.{reading_moment}
use Rattle.vx_record.specs.Legal.{IsLegal}
use Rattle.vx_record.specs.Tasks.{is_of, mine, out_to}
use Rattle.vx_record.specs.Additions.{OnlyAdds}
use Rattle.vx_record.specs.Makers.{maker, IsBy, IsByOther, IsByNone, IsFor, Spares, IsOfNone}

-- an entry of another task, or of none, leaves the entries of this one
abbrev pub OthersLeave : Type 0
OthersLeave = (h : Record) (e : Entry) (i : ℕ) → is_of i e ≡ false → mine (e ∷ h) i ≡ mine h i

-- an instance is out exactly where it is out to a worker
abbrev pub OutToWorker : Type 0
OutToWorker = (h : Record) (i : ℕ) → is_out h i ≡ is_some (out_to h i)

-- it is leased only while it is out to nobody, so no two workers have it
abbrev pub LeasedWhenUnleased : Type 0
LeasedWhenUnleased = (h : Record) (i worker now polls : ℕ) → IsLegal (Lease i worker now polls ∷ h) → out_to h i ≡ None

-- the worker that it is out to makes each entry of its task
abbrev pub OutMadeBy : Type 0
OutMadeBy = (h : Record) (e : Entry) (i worker : ℕ) → IsLegal (e ∷ h) → out_to h i ≡ Some worker → is_of i e ≡ true → maker h e ≡ Some worker

-- so what others make spares it
abbrev pub OthersSpare : Type 0
OthersSpare = (old new : Record) (i worker : ℕ) → out_to old i ≡ Some worker → OnlyAdds (IsByOther worker) old new → OnlyAdds (Spares i) old new

-- and so does what another worker makes
abbrev pub WorkersSpare : Type 0
WorkersSpare =
    (old new : Record) (i worker other : ℕ) → other ≢ worker → out_to old i ≡ Some worker → OnlyAdds (IsBy other) old new → OnlyAdds (Spares i) old new

-- or no worker
abbrev pub NoneSpares : Type 0
NoneSpares = (old new : Record) (i worker : ℕ) → out_to old i ≡ Some worker → OnlyAdds IsByNone old new → OnlyAdds (Spares i) old new

-- what is of another task spares it, out or not
abbrev pub TasksSpare : Type 0
TasksSpare = (old new : Record) (i j : ℕ) → j ≢ i → OnlyAdds (IsFor j) old new → OnlyAdds (Spares i) old new

-- and what is of no task
abbrev pub TasklessSpares : Type 0
TasklessSpares = (old new : Record) (i : ℕ) → OnlyAdds IsOfNone old new → OnlyAdds (Spares i) old new

-- what spares a task leaves its entries, and all that they say
abbrev pub SparedStays : Type 0
SparedStays = (old new : Record) (i : ℕ) → OnlyAdds (Spares i) old new → mine new i ≡ mine old i

-- and the record that stood there at its last Lease
abbrev pub LeaseStays : Type 0
LeaseStays = (old new : Record) (i : ℕ) → OnlyAdds (Spares i) old new → at_lease new i ≡ at_lease old i

-- and the moment from which on a source may be read
abbrev pub ReadingStays : Type 0
ReadingStays = (old new : Record) (i : ℕ) → OnlyAdds (Spares i) old new → reading_moment new i ≡ reading_moment old i

-- what waits in its buffer grows at its end alone, so what it would take first stays
abbrev pub ContentsGrow : Type 0
ContentsGrow =
    (old new : Record) (i s : ℕ) → IsLegal old → OnlyAdds (Spares i) old new → (more : List (List ℕ)) × (contents new i s ≡ contents old i s ++ more)

-- the copies that an entry takes for the instance
abbrev pub took_in : ℕ → Entry → List ℕ
took_in i (Take j s copies) = if j == i then copies else []
took_in i other = []

-- a copy that an instance took is spent by entries of its task alone
abbrev pub SpentByTaker : Type 0
SpentByTaker = (h : Record) (i c : ℕ) → IsLegal h → 0 < count c (all_of (took_in i) h) → times_spent h c ≡ times_spent (mine h i) c

-- a task is as it was: out to the same worker, with what it holds, its bytes and its positions
pub record IsAsItWas (i : ℕ) (old new : Record) : Type 0 where
  pub out : is_out new i ≡ is_out old i
  pub worker : out_to new i ≡ out_to old i
  pub held : held new i ≡ held old i
  pub outputs : outputs new i ≡ outputs old i
  pub waiting : (t : ℕ) → waiting new i t ≡ waiting old i t
  pub taken : (stream : ℕ) → taken new i stream ≡ taken old i stream
  pub ended : ended_streams new i ≡ ended_streams old i
  pub given : given new i ≡ given old i
  pub confirmed : confirmed new i ≡ confirmed old i

-- while an instance is out, its task changes only by entries that its worker makes
abbrev pub TasksOut : Type 0
TasksOut =
    (old new : Record) (i worker : ℕ) → IsLegal old → out_to old i ≡ Some worker → OnlyAdds (IsByOther worker) old new → IsAsItWas i old new
