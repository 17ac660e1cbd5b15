-- What calls give.
use Rattle.std.specs.Prelude.{◌≡◌, ◌≢◌, ◌+◌, ◌<◌, ℕ, ◌⊎◌, Option, IsSome, List, [], ◌∷◌, ◌++◌, map, reverse}
use Rattle.vx_ledger.specs.Copies.{Copy, numbers_of}
use Rattle.vx_transform.specs.declared.output.Output.{Output}
use Rattle.vx_status.specs.declared.outcome.Outcome.{Outcome}
use Rattle.vx_condition.specs.Reducing.{Settings, due}
use Rattle.vx_record.specs.declared.output.Output.{Output as NotedOutput}
use Rattle.vx_record.specs.declared.entry.Entry.TheVariants.{Spent}
use Rattle.vx_record.specs.Records.{Record}
use Rattle.vx_record.specs.Copies.{count, joined}
use Rattle.vx_record.specs.Places.{put_out}
use Rattle.vx_record.specs.Places.Place.{Held}
use Rattle.vx_record.specs.Lists.{without, held}
use Rattle.vx_record.specs.Inputs.{Input as NotedInput, answered, steps_of}
use Rattle.vx_record.specs.Transforms.{Rule, reduces, RunsBy, PutsOut, Discards}
use Rattle.vx_record.specs.Shifts.{at}
use Rattle.vx_record.specs.Legal.{IsLegal}
use Rattle.vx_places.specs.Numbers.{parcels_out, AreNoted, EachFilled}
use Rattle.vx_keeping.specs.Kept.{Kept, copies_kept}
use Rattle.vx_keeping.specs.Given.{SameCopies}
use Rattle.vx_keeping.specs.Keeping.{RunsHost, IsMade, Accounts, Keeps}

-- the instance runs by a rule that reduces
abbrev pub Reduces : Record → ℕ → Type 0
Reduces h i = (s : Settings) × RunsBy h i (reduces s)

-- the instance runs by such a rule, or a host
abbrev pub Runs : Record → ℕ → Type 0
Runs h i = Reduces h i ⊎ RunsHost h i

-- some outputs as their entry has them
abbrev pub notes_of : List Output → List NotedOutput
notes_of outputs = map (λ (output : Output). record { ports = output.ports; copies = numbers_of output.parcel.finalizers; event = output.parcel.event }) outputs

-- what an instance goes on holding behind some outputs and what it discards
abbrev pub kept_behind : Record → ℕ → List Output → List Copy → List ℕ
kept_behind h i outputs discarded = without (put_out (notes_of outputs) ++ numbers_of discarded) (joined (at h (Held i)))

-- outputs and discarded copies may be noted as the instance's answer: they are what each rule by which it runs puts out and discards,
-- by whatever tests its conditions mean, and it runs by one where it holds something; each output is as the entry has it, and has a
-- copy, and each copy that was held is put out, discarded or kept
pub record MayBeNoted (h : Record) (i : ℕ) (outputs : List Output) (discarded : List Copy) : Type 0 where
  pub made : (rule : Rule) → RunsBy h i rule → PutsOut rule h i (notes_of outputs)
  pub refused : (rule : Rule) → RunsBy h i rule → Discards rule h i (numbers_of discarded)
  pub runs : at h (Held i) ≢ [] → Runs h i
  pub noted : AreNoted outputs (notes_of outputs)
  pub filled : EachFilled (parcels_out outputs)
  pub same : (c : ℕ) →
      count c (put_out (notes_of outputs)) + count c (numbers_of discarded) + count c (kept_behind h i outputs discarded) ≡ count c (joined (held h i))

-- a moment is that of the next check behind what is answered and some more, and where there is one, the instance runs by a rule that
-- reduces, or a host, which acts when it likes
pub record IsDueBehind (soonest : Option ℕ) (h : Record) (i : ℕ) (behind : List NotedInput) : Type 0 where
  pub moment : (s : Settings) → RunsBy h i (reduces s) → soonest ≡ due s (steps_of (reverse behind ++ answered h i))
  pub runs : IsSome soonest → Runs h i

-- a copy was taken out, to be spent: it was there and no other is gone; in each record whose copies these were it is there, and leads
-- to the record with its spend
pub record GivesUp (copy : Copy) (old new : Kept) : Type 0 where
  pub same : SameCopies (copies_kept old) (copy ∷ copies_kept new)
  pub there : (h : Record) (i : ℕ) → Accounts old h i → 0 < count copy.number (joined (at h (Held i)))
  pub made : (h : Record) (i : ℕ) → Accounts old h i → IsMade h copy
  pub leads : (h : Record) (i : ℕ) (outcome : Outcome) → Accounts old h i → IsLegal (Spent i copy.number outcome ∷ h) → Keeps new (Spent i copy.number outcome ∷ h) i

-- one that the last answer discarded was taken out, to be spent: the same, and the keeper of each record, which stays as fit, leads to
-- that of the record with its spend
pub record TakesOut (copy : Copy) (old new : Kept) : Type 0 where
  pub discarded : SameCopies old.discarded (copy ∷ new.discarded)
  pub same : SameCopies (copies_kept old) (copy ∷ copies_kept new)
  pub there : (h : Record) (i : ℕ) → Accounts old h i → 0 < count copy.number (joined (at h (Held i)))
  pub made : (h : Record) (i : ℕ) → Accounts old h i → IsMade h copy
  pub leads : (h : Record) (i : ℕ) (outcome : Outcome) → Keeps old h i → IsLegal (Spent i copy.number outcome ∷ h) → Keeps new (Spent i copy.number outcome ∷ h) i
