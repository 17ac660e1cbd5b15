-- What an attempt does to the port, and what its answer says.
use Rattle.std.specs.Prelude.{◌≡◌, ◌≢◌, ℕ, ◌≤◌, not, ◌||◌, Bool, true, false, Option, Some, None, Result, is_ok}
use Rattle.vx_ends.specs.Observation.{Observation, Rose, Happened, CountsBy, nothing, is_failed, is_refused}
use Rattle.vx_ends.specs.declared.trouble.Trouble.{Trouble}
use Rattle.vx_ends.specs.declared.trouble.Trouble.TheVariants as trouble
use Rattle.vx_ends.specs.declared.trouble.Reply.TheVariants.{Ok, Failed, Refused}
use Rattle.vx_ends.specs.declared.trouble.Reply.{Reply}
use Rattle.vx_tasks.specs.declared.sending.Attempted.{Attempted}

-- an attempt takes and confirms nothing, and none of these counts falls
pub record OnlyGives (old new : Observation) : Type 0 where
  pub taken : new.taken ≡ old.taken
  pub left : new.left ≡ old.left
  pub confirmed : new.confirmed ≡ old.confirmed
  pub spec : new.spec ≡ old.spec
  pub ended : new.ended ≡ old.ended
  pub faults : old.faults ≤ new.faults
  pub refusals : old.refusals ≤ new.refusals
  pub idles : old.idles ≤ new.idles

-- what a reply says of the port: it is started, and a failure closes it; each reply raises its count
abbrev pub RepliesBy : Observation → Observation → Reply → Type 0
RepliesBy old new Ok = Rose old.finishes new.finishes × (new.started ≡ true)
RepliesBy old new Failed = Rose old.faults new.faults × (new.started ≡ false)
RepliesBy old new Refused = Rose old.refusals new.refusals × (new.started ≡ true)

-- the reply has its cause
abbrev pub IsCaused : Observation → Observation → Attempted → Type 0
IsCaused old new attempted = RepliesBy old new attempted.reply

-- with the reply `Ok` all bytes were sent
abbrev pub IsWhole : ℕ → Attempted → Type 0
IsWhole length attempted = attempted.reply ≡ Ok → attempted.sent ≡ length

-- what a give that may have had trouble counts
abbrev pub trouble_counts : Option Trouble → Happened
trouble_counts None = nothing
trouble_counts (Some trouble.Failed) = record nothing { failed = true }
trouble_counts (Some trouble.Refused) = record nothing { refused = true }
trouble_counts (Some trouble.WantOfMemory) = nothing

-- what gives and a finish count
abbrev pub sent_counts : {T : Type 0} → Result T Trouble → Happened
sent_counts answer = record nothing { failed = is_failed answer; refused = is_refused answer; finished = is_ok answer }

-- what a start, gives and a finish count
abbrev pub all_counts : Bool → Result (Unit {0}) Trouble → Happened
all_counts started answer = record (sent_counts answer) { started = started }

-- a start, gives and a finish count their answer once, and one start exactly where the port wasn't started, but perhaps none where
-- that failed; the port is started where the device took them or refused them
pub record CountsSent (answer : Result (Unit {0}) Trouble) (old new : Observation) : Type 0 where
  pub started : Bool
  pub first : started ≡ true → old.started ≡ false
  pub known : (is_ok answer || is_refused answer) ≡ true → started ≡ not old.started
  pub ready : (is_ok answer || is_refused answer) ≡ true → new.started ≡ true
  pub counts : CountsBy (all_counts started answer) old new

-- what a reply counts, with a start or without
abbrev pub reply_counts : Bool → Reply → Happened
reply_counts started Ok = record nothing { started = started; finished = true }
reply_counts started Failed = record nothing { started = started; failed = true }
reply_counts started Refused = record nothing { started = started; refused = true }

-- an attempt counts its reply once, and one start exactly where the port wasn't started, but perhaps none where that failed
pub record CountsReply (old new : Observation) (attempted : Attempted) : Type 0 where
  pub started : Bool
  pub first : started ≡ true → old.started ≡ false
  pub known : attempted.reply ≢ Failed → started ≡ not old.started
  pub counts : CountsBy (reply_counts started attempted.reply) old new
