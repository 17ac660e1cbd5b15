-- Further records that no later entry makes legal.
use Rattle.std.specs.Prelude.{true, false, [], ◌∷◌}
use Rattle.vx_ends.specs.declared.trouble.Reply.TheVariants.{Ok}
use Rattle.vx_status.specs.declared.outcome.Outcome.TheVariants.{Abandoned}
use Rattle.vx_status.specs.declared.batch_status.BatchStatus.TheVariants as batch
use Rattle.vx_record.specs.declared.taken.Taken.TheVariants.{AllEnded}
use Rattle.vx_record.specs.declared.entry.Entry.TheVariants.{Lease, Home, Read, Idle, SourceLost, Born, Split, Push, Attempt, Spent, Notice, Confirm, Closed, Retired}
use Rattle.vx_record.specs.Records.{Record}
use Rattle.vx_examples.specs.FirstRun.{first_run}
use Rattle.vx_examples.specs.Parts.{event_with, child}
use Rattle.vx_examples.specs.Phrases.{so_far}
use Rattle.vx_examples.specs.UnfinishedLine as unfinished
use Rattle.vx_examples.specs.Batched as batched
use Rattle.vx_examples.specs.Waiting as waiting
use Rattle.vx_examples.specs.GivenUp as gone

-- a Born for a Read that gives no event
abbrev pub born_of_nothing : Record
born_of_nothing = Born 0 0 0 [] [] false 0 0 ∷ so_far 3 unfinished.run

-- a Born with fewer copies than events
abbrev pub born_of_too_few : Record
born_of_too_few = Born 0 0 0 (0 ∷ []) (event_with 97 ∷ event_with 98 ∷ []) false 0 4 ∷ so_far 3 first_run

-- a Confirm of a source that is unleased
abbrev pub confirm_unleased : Record
confirm_unleased = Confirm 0 (record { stream = 0; end = 4 } ∷ []) true ∷ so_far 20 first_run

-- a Confirm of a sink
abbrev pub confirm_of_a_sink : Record
confirm_of_a_sink = Confirm 1 [] true ∷ so_far 10 first_run

-- a Retired of an instance that never was
abbrev pub retired_stranger : Record
retired_stranger = Retired 7 ∷ so_far 19 gone.run

-- a second Notice of a batch
abbrev pub second_notice : Record
second_notice = Notice 0 batch.Delivered ∷ so_far 19 first_run

-- a Push into a stage while an earlier one has room
abbrev pub push_to_a_later_stage : Record
push_to_a_later_stage = Push 0 1 1 (3 ∷ []) ∷ so_far 6 batched.run

-- an Idle of a sink
abbrev pub idle_of_a_sink : Record
idle_of_a_sink = Idle 1 false ∷ so_far 10 first_run

-- a SourceLost of a source that is unleased
abbrev pub lost_unleased : Record
lost_unleased = SourceLost 0 4 false ∷ so_far 20 first_run

-- a Split behind an Abandon
abbrev pub split_after_an_abandon : Record
split_after_an_abandon = Split 0 1 (1 ∷ []) (event_with 98) (child 1 3 ∷ []) ∷ so_far 10 gone.run

-- an Attempt of a sink that holds nothing
abbrev pub attempt_of_nothing : Record
attempt_of_nothing = Attempt 1 [] [] Ok ∷ so_far 10 first_run

-- a Closed of a source that was leased for a confirm
abbrev pub closed_before_its_confirm : Record
closed_before_its_confirm = Closed 0 ∷ so_far 45 batched.run

-- a Closed of a sink that was leased with a parcel in its buffer
abbrev pub closed_with_a_parcel : Record
closed_with_a_parcel = Closed 1 ∷ so_far 11 unfinished.run

-- a Closed of a sink that was leased with a parcel that it holds
abbrev pub closed_with_a_held_parcel : Record
closed_with_a_held_parcel = Closed 1 ∷ so_far 40 batched.run

-- a Lease of a source that has nothing left to do but to wait for a notice
abbrev pub lease_before_its_notice : Record
lease_before_its_notice = Lease 0 0 0 0 ∷ Home 0 ∷ Read 0 0 AllEnded ∷ Lease 0 0 0 0 ∷ so_far 20 waiting.run

-- a Lease of a source whose Read has no Born
abbrev pub lease_without_its_birth : Record
lease_without_its_birth = Lease 0 0 0 0 ∷ Home 0 ∷ so_far 3 first_run

-- an abandoned copy spent at an instance that does not hold it
abbrev pub given_up_elsewhere : Record
given_up_elsewhere = Spent 0 2 Abandoned ∷ so_far 14 gone.run

-- a Closed of an instance that is unleased
abbrev pub closed_unleased : Record
closed_unleased = Closed 0 ∷ so_far 24 first_run
