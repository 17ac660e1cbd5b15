-- What an entry makes of a place: the parcels that stand there, the oldest first.
use Rattle.std.specs.Prelude.{ℕ, ◌&&◌, List, [], ◌∷◌, ◌++◌, ◌==◌, if◌then◌else◌}
use Rattle.vx_record.specs.declared.entry.Entry.{Entry}
use Rattle.vx_record.specs.declared.entry.Entry.TheVariants.{Install, Lease, Home, Read, Idle, SourceLost, Born, Split, Push, Take, Tick, Answer, Attempt, Spent, Notice, Confirm, Closed, Retired, Abandon}
use Rattle.vx_record.specs.Records.{Record}
use Rattle.vx_record.specs.Places.{Place, owner, put_out}
use Rattle.vx_record.specs.Places.Place.{Outputs, Waiting, Contents, Held}
use Rattle.vx_record.specs.Lists.{shrunk}
use Rattle.vx_record.specs.Moving.{singles, children_for, parcels_of}

-- all of some parcels but the oldest
abbrev pub younger : List (List ℕ) → List (List ℕ)
younger [] = []
younger (parcel ∷ rest) = rest

-- what an entry makes of the parcels at a place
abbrev pub shift : Entry → Place → List (List ℕ) → List (List ℕ)
shift (Install version plan once instances now) p was = was
shift (Lease i worker now polls) p was = was
shift (Home i) p was = was
shift (Read i stream took) p was = was
shift (Idle i failed) p was = was
shift (SourceLost i at failed) p was = was
shift (Born i b place copies events waits stream end) (Outputs j) was = if i == j then was ++ singles copies else was
shift (Born i b place copies events waits stream end) p was = was
shift (Split i ports copies event children) (Outputs j) was = if i == j then younger was else was
shift (Split i ports copies event children) (Waiting j t) was = if i == j then was ++ children_for t children else was
shift (Split i ports copies event children) p was = was
shift (Push i t s copies) (Waiting j u) was = if (i == j) && (t == u) then younger was else was
shift (Push i t s copies) (Contents j r) was = if (t == j) && (s == r) then was ++ copies ∷ [] else was
shift (Push i t s copies) p was = was
shift (Take i s copies) (Contents j r) was = if (i == j) && (s == r) then younger was else was
shift (Take i s copies) (Held j) was = if i == j then was ++ copies ∷ [] else was
shift (Take i s copies) p was = was
shift (Tick i now) p was = was
shift (Answer i outputs discarded kept) (Outputs j) was = if i == j then was ++ parcels_of outputs else was
shift (Answer i outputs discarded kept) (Held j) was = if i == j then shrunk (put_out outputs) was else was
shift (Answer i outputs discarded kept) p was = was
shift (Attempt i copies bytes reply) p was = was
shift (Spent i c outcome) p was = if i == owner p then shrunk (c ∷ []) was else was
shift (Notice b status) p was = was
shift (Confirm i positions made) p was = was
shift (Closed i) p was = was
shift (Retired i) p was = was
shift (Abandon cause) p was = was

-- the parcels at a place, entry by entry
abbrev pub at : Record → Place → List (List ℕ)
at [] p = []
at (e ∷ h) p = shift e p (at h p)
