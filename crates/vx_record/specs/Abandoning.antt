-- What an Abandon leaves legal.
use Rattle.std.specs.Prelude.{Bool, true, false, ◌≡◌, [], ◌∷◌}
use Rattle.vx_status.specs.declared.outcome.Outcome.{Outcome}
use Rattle.vx_status.specs.declared.outcome.Outcome.TheVariants.{Abandoned}
use Rattle.vx_record.specs.declared.entry.Entry.{Entry}
use Rattle.vx_record.specs.declared.entry.Entry.TheVariants.{Home, Read, Idle, SourceLost, Attempt, Spent, Notice, Confirm, Closed, Retired, Abandon}
use Rattle.vx_record.specs.Records.{Record}
use Rattle.vx_record.specs.Turns.{is_out}

-- whether the run was abandoned
abbrev pub abandoned : Record → Bool
abandoned [] = false
abandoned (Abandon cause ∷ h) = true
abandoned (e ∷ h) = abandoned h

-- the record as it stood at its Abandon
abbrev pub at_abandon : Record → Record
at_abandon [] = []
at_abandon (Abandon cause ∷ h) = h
at_abandon (e ∷ h) = at_abandon h

-- whether an outcome is that of abandoned copies
abbrev pub gives_up : Outcome → Bool
gives_up Abandoned = true
gives_up other = false

-- what may still come: the work of instances that were out, and what brings the run to its close
abbrev pub is_left : Record → Entry → Bool
is_left h (Read i stream took) = is_out (at_abandon h) i
is_left h (Idle i failed) = is_out (at_abandon h) i
is_left h (SourceLost i at failed) = is_out (at_abandon h) i
is_left h (Attempt i copies bytes reply) = is_out (at_abandon h) i
is_left h (Confirm i positions made) = is_out (at_abandon h) i
is_left h (Home i) = is_out (at_abandon h) i
is_left h (Spent i c outcome) = gives_up outcome
is_left h (Notice b status) = true
is_left h (Closed i) = true
is_left h (Retired i) = true
is_left h other = false

-- behind an Abandon an entry must be one of these
abbrev pub MayStillCome : Record → Entry → Type 0
MayStillCome h e = abandoned h ≡ true → is_left h e ≡ true
