-- The rows of Tick and Answer.
use Rattle.std.specs.Prelude.{ℕ, ◌+◌, ◌≡◌, true, false, List, [], ◌++◌}
use Rattle.vx_record.specs.declared.output.Output.{Output}
use Rattle.vx_record.specs.Records.{Record}
use Rattle.vx_record.specs.Copies.{count, joined}
use Rattle.vx_record.specs.Turns.{is_out, lease_now}
use Rattle.vx_record.specs.Places.{put_out}
use Rattle.vx_record.specs.Lists.{without, held, buffered}
use Rattle.vx_record.specs.Routing.{is_ending}
use Rattle.vx_record.specs.Inputs.{unanswered, ticks_wait}
use Rattle.vx_record.specs.Transforms.{Rule, RunsBy, PutsOut, Discards, IsTickDue}
use Rattle.vx_record.specs.Owing.{owes_discards}

-- a Tick comes at the moment of the instance's Lease, where it is due and no other waits for its Answer
pub record MayTick (h : Record) (i now : ℕ) : Type 0 where
  pub out : is_out h i ≡ true
  pub of_lease : now ≡ lease_now h i
  pub due : IsTickDue h i now
  pub once : ticks_wait h i ≡ false

-- an Answer is to the flush where nothing was given: then nothing more can come, and it keeps nothing
pub record MayFlush (h : Record) (i : ℕ) (kept : List ℕ) : Type 0 where
  pub ending : is_ending h i ≡ true
  pub drained : buffered h i ≡ []
  pub emptied : kept ≡ []

-- an Answer puts out, discards and keeps what the instance held, each copy once, as its transform says; what the last
-- one discarded is spent
pub record MayAnswer (h : Record) (i : ℕ) (outputs : List Output) (discarded kept : List ℕ) : Type 0 where
  pub out : is_out h i ≡ true
  pub settled : owes_discards h i ≡ false
  pub rule : Rule
  pub follows : RunsBy h i rule
  pub made : PutsOut rule h i outputs
  pub refused : Discards rule h i discarded
  pub same : (c : ℕ) → count c (put_out outputs) + count c discarded + count c kept ≡ count c (joined (held h i))
  pub in_order : kept ≡ without (put_out outputs ++ discarded) (joined (held h i))
  pub flush : unanswered h i ≡ [] → MayFlush h i kept
