-- What runs consist of: phrases of some entries in the order in which they come, and the record that phrases make.
use Rattle.std.specs.Prelude.{ℕ, ◌-◌, true, false, List, [], ◌∷◌, ◌++◌, length, map, reverse, drop}
use Rattle.vx_value.specs.Texts.{ByteString}
use Rattle.vx_value.specs.declared.event.Event.{Event}
use Rattle.vx_ends.specs.declared.trouble.Reply.TheVariants.{Ok, Refused}
use Rattle.vx_status.specs.declared.outcome.Outcome.TheVariants.{Delivered, Refusal}
use Rattle.vx_status.specs.declared.batch_status.BatchStatus.TheVariants as batch
use Rattle.vx_plan.specs.declared.plan.Plan.{Plan}
use Rattle.vx_record.specs.declared.taken.Taken.TheVariants.{Bytes, AllEnded}
use Rattle.vx_record.specs.declared.entry.Entry.{Entry}
use Rattle.vx_record.specs.declared.entry.Entry.TheVariants.{Lease, Home, Read, Born, Split, Push, Take, Attempt, Spent, Notice, Confirm, Closed, Retired}
use Rattle.vx_record.specs.Records.{Record}
use Rattle.vx_record.specs.Copies.{counting}
use Rattle.vx_record.specs.Wirings.{begun}
use Rattle.vx_examples.specs.Parts.{child}

abbrev pub Phrase : Type 0
Phrase = List Entry

-- the record of some phrases
abbrev pub recorded : List Phrase → Record
recorded [] = []
recorded (phrase ∷ later) = recorded later ++ reverse phrase

-- a record as it stood behind its first n entries
abbrev pub so_far : ℕ → Record → Record
so_far n h = drop (length h - n) h

-- all instances of a plan begin
abbrev pub begins : Plan → Phrase
begins plan = begun plan false 0

-- an instance is leased at a moment, does something, and comes back
abbrev pub turn : ℕ → ℕ → Phrase → Phrase
turn i now does = Lease i 0 now 0 ∷ (does ++ (Home i ∷ []))

-- a source reads bytes of a stream, and makes a batch of their events, from a copy on and up to a position; nothing waits
abbrev pub taken_in : ℕ → ℕ → ByteString → ℕ → List Event → ℕ → Phrase
taken_in i stream bytes first events end =
    Read i stream (Bytes bytes) ∷ Born i first 0 (counting first (length events)) events false stream end ∷ []

-- a source is told the end of all
abbrev pub told_the_end : ℕ → Phrase
told_the_end i = Read i 0 AllEnded ∷ []

-- a position of a source's stream is confirmed
abbrev pub confirmed : ℕ → ℕ → ℕ → Phrase
confirmed i stream end = Confirm i (record { stream = stream; end = end } ∷ []) true ∷ []

-- an output of one copy goes to its only target, as another copy
abbrev pub passed_on : ℕ → ℕ → ℕ → Event → ℕ → Phrase
passed_on i target copy event next = Split i 1 (copy ∷ []) event (child target next ∷ []) ∷ Push i target 0 (next ∷ []) ∷ []

-- an instance takes parcels of one copy each from the first stage of its buffer
abbrev pub gathered : ℕ → List ℕ → Phrase
gathered i copies = map (λ (copy : ℕ). Take i 0 (copy ∷ [])) copies

-- a sink gives all bytes of some copies, which are delivered
abbrev pub delivered : ℕ → List ℕ → ByteString → Phrase
delivered i copies bytes = Attempt i copies bytes Ok ∷ map (λ (copy : ℕ). Spent i copy Delivered) copies

-- a sink takes a copy and delivers it
abbrev pub written : ℕ → ℕ → ByteString → Phrase
written i copy bytes = Take i 0 (copy ∷ []) ∷ delivered i (copy ∷ []) bytes

-- a sink takes a copy, whose bytes are refused
abbrev pub refused : ℕ → ℕ → ByteString → Phrase
refused i copy bytes = Take i 0 (copy ∷ []) ∷ Attempt i (copy ∷ []) bytes Refused ∷ Spent i copy Refusal ∷ []

-- a batch is noticed as delivered
abbrev pub noticed : ℕ → Phrase
noticed b = Notice b batch.Delivered ∷ []

-- an instance with a port closes it and ends
abbrev pub ended : ℕ → ℕ → Phrase
ended i now = turn i now (Closed i ∷ []) ++ (Retired i ∷ [])
