-- When a source takes no more, who reads what an instance puts out, and whether a transform answered.
use Rattle.std.specs.Prelude.{ℕ, ◌≡◌, ◌⊎◌, Bool, true, false, Option, Some, None, IsSome, List, [], ◌∷◌, map, if◌then◌else◌, ◌==◌}
use Rattle.vx_record.specs.declared.entry.Entry.TheVariants.{SourceLost, Answer, Abandon}
use Rattle.vx_record.specs.declared.abandon_cause.AbandonCause.{AbandonCause}
use Rattle.vx_record.specs.Records.{Record}
use Rattle.vx_record.specs.Copies.{joined}
use Rattle.vx_record.specs.Installs.{wired}
use Rattle.vx_record.specs.Routing.{wired_targets}
use Rattle.vx_record.specs.Reads.{all_ended}

-- after how many bytes a source was lost
abbrev pub lost_at : Record → ℕ → Option ℕ
lost_at [] i = None
lost_at (SourceLost j at failed ∷ h) i = if j == i then Some at else lost_at h i
lost_at (e ∷ h) i = lost_at h i

-- why the run was abandoned
abbrev pub cause_of : Record → Option AbandonCause
cause_of [] = None
cause_of (Abandon cause ∷ h) = Some cause
cause_of (e ∷ h) = cause_of h

-- a source takes no more: it was told the end of all, or was lost, or the run was given up
abbrev pub TakesNoMore : Record → ℕ → Type 0
TakesNoMore h i = (all_ended h i ≡ true) ⊎ (IsSome (lost_at h i) ⊎ IsSome (cause_of h))

-- the instances that read the first port of an instance, by the Install that gave it work, in byte order of their names
abbrev pub readers_at : Record → ℕ → List ℕ
readers_at = wired [] (wired_targets 0)

-- and those that read some of its ports, in the order of the ports
abbrev pub readers_on : Record → ℕ → List ℕ → List ℕ
readers_on h i ports = joined (map (λ port. wired [] (wired_targets port) h i) ports)

-- whether no transform has answered yet
abbrev pub no_answer : Record → Bool
no_answer [] = true
no_answer (Answer i outputs discarded kept ∷ h) = false
no_answer (e ∷ h) = no_answer h
