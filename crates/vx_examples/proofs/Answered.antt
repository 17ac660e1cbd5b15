-- What an answer asks for that no computation finds: the rule by which the transform answers.
use Rattle.std.proofs.Common.{◌≡◌, ◌+◌, ℕ, List}
use Rattle.vx_record.specs.declared.output.Output.{Output}
use Rattle.vx_record.specs.Records.{Record}
use Rattle.vx_record.specs.Copies.{count, joined}
use Rattle.vx_record.specs.Places.{put_out}
use Rattle.vx_record.specs.Lists.{held}
use Rattle.vx_record.specs.Transforms.{Rule, RunsBy, PutsOut, Discards}

-- the outputs and what is discarded are by the rule, and no copy is lost or made
pub record Answered (h : Record) (i : ℕ) (outputs : List Output) (discarded kept : List ℕ) : Type 0 where
  pub rule : Rule
  pub follows : RunsBy h i rule
  pub made : PutsOut rule h i outputs
  pub refused : Discards rule h i discarded
  pub same : (c : ℕ) → count c (put_out outputs) + count c discarded + count c kept ≡ count c (joined (held h i))
