-- More records that no further entry makes legal.
use Rattle.std.specs.Prelude.{true, false, [], ◌∷◌}
use Rattle.vx_ends.specs.declared.trouble.Reply.TheVariants.{Ok}
use Rattle.vx_status.specs.declared.outcome.Outcome.TheVariants.{Delivered, Filtered, NewestDropped, NoConsumer, Attempts, Abandoned}
use Rattle.vx_record.specs.Starting.{first_instances}
use Rattle.vx_record.specs.declared.taken.Taken.TheVariants.{Bytes}
use Rattle.vx_record.specs.declared.abandon_cause.AbandonCause.TheVariants.{WantOfMemory, Numbers}
use Rattle.vx_record.specs.declared.entry.Entry.TheVariants.{Install, Lease, Home, Read, Idle, SourceLost, Born, Split, Push, Take, Attempt, Spent, Confirm, Closed, Retired, Abandon}
use Rattle.vx_record.specs.Records.{Record}
use Rattle.vx_examples.specs.FirstRun.{first_run}
use Rattle.vx_examples.specs.Parts.{event_with, child}
use Rattle.vx_examples.specs.Phrases.{so_far}
use Rattle.vx_examples.specs.FirstRun as first
use Rattle.vx_examples.specs.Batched as batched
use Rattle.vx_examples.specs.Waiting as waiting
use Rattle.vx_examples.specs.GivenUp as gone
use Rattle.vx_examples.specs.NeverStarted as never_started
use Rattle.vx_examples.specs.Lost as lost
use Rattle.vx_examples.specs.Dropped as dropped

-- a record that does not begin with an Install
abbrev pub no_install : Record
no_install = Lease 0 0 0 0 ∷ []

-- a first Install whose version is not 0
abbrev pub later_version : Record
later_version = Install 1 first.plan false (first_instances 0 first.plan.components) 0 ∷ []

-- a first Install that starts nothing
abbrev pub missing_instances : Record
missing_instances = Install 0 first.plan false [] 0 ∷ []

-- a Lease with polls, before Control is polled
abbrev pub polled_lease : Record
polled_lease = Lease 1 0 0 1 ∷ so_far 9 first_run

-- a Lease before its worker's last one
abbrev pub falling_moment : Record
falling_moment = Lease 1 0 999 0 ∷ so_far 26 batched.run

-- a Lease of a retired instance
abbrev pub lease_of_the_retired : Record
lease_of_the_retired = Lease 0 0 0 0 ∷ so_far 32 first_run

-- a fifth failed start that does not end the source
abbrev pub fifth_idle : Record
fifth_idle = Idle 0 true ∷ so_far 14 never_started.run

-- a source that ends at its first failed start
abbrev pub lost_too_soon : Record
lost_too_soon = SourceLost 0 0 true ∷ so_far 2 never_started.run

-- a source lost at a number of bytes that it did not take
abbrev pub lost_at_another_byte : Record
lost_at_another_byte = SourceLost 0 1 false ∷ so_far 8 lost.run

-- a Take from a stage while an earlier one has a parcel
abbrev pub take_of_a_later_stage : Record
take_of_a_later_stage = Take 1 1 (4 ∷ []) ∷ so_far 11 batched.run

-- a Take behind an Attempt of the same turn
abbrev pub take_after_an_attempt : Record
take_after_an_attempt = Take 1 0 (3 ∷ []) ∷ so_far 13 first_run

-- an Attempt of a sink batch that is not closed
abbrev pub early_attempt : Record
early_attempt = Attempt 1 (5 ∷ []) (99 ∷ 10 ∷ []) Ok ∷ so_far 20 batched.run

-- two Attempts under one Lease
abbrev pub second_attempt : Record
second_attempt = Attempt 1 (2 ∷ []) (97 ∷ 10 ∷ []) Ok ∷ so_far 12 first_run

-- an Attempt of a part of the sink batch
abbrev pub attempt_of_a_part : Record
attempt_of_a_part = Attempt 1 (3 ∷ []) (97 ∷ 10 ∷ []) Ok ∷ so_far 13 batched.run

-- a copy spent for its attempts before one failed
abbrev pub spent_by_no_failure : Record
spent_by_no_failure = Spent 1 2 Attempts ∷ so_far 12 first_run

-- a copy filtered where nothing filters
abbrev pub filtered_by_a_sink : Record
filtered_by_a_sink = Spent 1 2 Filtered ∷ so_far 12 first_run

-- a copy spent for want of a target, though its port has one
abbrev pub unread_though_read : Record
unread_though_read = Spent 0 0 NoConsumer ∷ so_far 5 first_run

-- a copy dropped as the newest while a stage has room
abbrev pub newest_with_room : Record
newest_with_room = Spent 0 2 NewestDropped ∷ so_far 6 dropped.run

-- a copy abandoned before an Abandon
abbrev pub given_up_without_an_abandon : Record
given_up_without_an_abandon = Spent 0 2 Abandoned ∷ so_far 6 first_run

-- a copy spent that a Split replaced
abbrev pub spent_after_a_split : Record
spent_after_a_split = Spent 0 0 Delivered ∷ so_far 7 first_run

-- a Confirm of positions that were confirmed
abbrev pub confirmed_again : Record
confirmed_again = Confirm 0 (record { stream = 0; end = 4 } ∷ []) true ∷ so_far 29 first_run

-- an instance retired after an Abandon while a copy stands at it
abbrev pub retired_with_a_copy : Record
retired_with_a_copy = Retired 1 ∷ Closed 1 ∷ so_far 14 gone.run

-- a second Abandon
abbrev pub second_abandon : Record
second_abandon = Abandon WantOfMemory ∷ so_far 10 gone.run

-- a Born that does not wait, though a sink acknowledges
abbrev pub waiting_missed : Record
waiting_missed = Born 0 0 0 (0 ∷ []) (event_with 97 ∷ []) false 0 2 ∷ so_far 3 waiting.run

-- a Confirm of a batch that waits for its notice
abbrev pub confirmed_before_its_notice : Record
confirmed_before_its_notice = Confirm 0 (record { stream = 0; end = 2 } ∷ []) true ∷ Lease 0 0 0 0 ∷ so_far 7 waiting.run

-- a Confirm past a batch that failed
abbrev pub confirmed_past_an_error : Record
confirmed_past_an_error = Confirm 0 (record { stream = 0; end = 4 } ∷ []) true ∷ so_far 27 waiting.run

-- a Home of an instance that is unleased
abbrev pub returned_twice : Record
returned_twice = Home 0 ∷ so_far 5 first_run

-- a Read without a Lease
abbrev pub read_unleased : Record
read_unleased = Read 0 0 (Bytes (97 ∷ 10 ∷ [])) ∷ so_far 5 first_run

-- a Read of a sink
abbrev pub read_of_a_sink : Record
read_of_a_sink = Read 1 0 (Bytes (97 ∷ 10 ∷ [])) ∷ so_far 10 first_run

-- a Born of an instance that did not read
abbrev pub born_by_another : Record
born_by_another = Born 1 0 0 (0 ∷ 1 ∷ []) (event_with 97 ∷ event_with 98 ∷ []) false 0 4 ∷ so_far 3 first_run

-- a Born that names another stream than its Read
abbrev pub born_of_another_stream : Record
born_of_another_stream = Born 0 0 0 (0 ∷ 1 ∷ []) (event_with 97 ∷ event_with 98 ∷ []) false 1 4 ∷ so_far 3 first_run

-- a Born that does not stand directly behind its Read
abbrev pub born_late : Record
born_late = Born 0 0 0 (0 ∷ 1 ∷ []) (event_with 97 ∷ event_with 98 ∷ []) false 0 4 ∷ Home 0 ∷ so_far 3 first_run

-- a Split while a child waits
abbrev pub split_while_a_child_waits : Record
split_while_a_child_waits = Split 0 1 (1 ∷ []) (event_with 98) (child 1 3 ∷ []) ∷ so_far 6 first_run

-- a Split on a port on which its parcel was not put out
abbrev pub split_on_another_port : Record
split_on_another_port = Split 0 2 (0 ∷ []) (event_with 97) (child 1 2 ∷ []) ∷ so_far 5 first_run

-- a Split without children
abbrev pub split_to_nobody : Record
split_to_nobody = Split 0 1 (0 ∷ []) (event_with 97) [] ∷ so_far 5 first_run

-- a Push by an instance that is out
abbrev pub push_while_out : Record
push_while_out = Push 0 1 0 (2 ∷ []) ∷ Lease 0 0 0 0 ∷ so_far 6 first_run

-- a Take without a Lease
abbrev pub take_unleased : Record
take_unleased = Take 1 0 (2 ∷ []) ∷ so_far 9 first_run

-- an Attempt without a Lease
abbrev pub attempt_unleased : Record
attempt_unleased = Attempt 1 (2 ∷ []) (97 ∷ 10 ∷ []) Ok ∷ Home 1 ∷ so_far 11 first_run

-- two Confirms under one Lease
abbrev pub confirmed_twice : Record
confirmed_twice = Confirm 0 (record { stream = 0; end = 4 } ∷ []) true ∷ so_far 22 first_run

-- a port closed twice
abbrev pub closed_twice : Record
closed_twice = Closed 0 ∷ so_far 30 first_run

-- an instance retired while it is out
abbrev pub retired_while_out : Record
retired_while_out = Retired 0 ∷ so_far 30 first_run

-- an instance retired twice
abbrev pub retired_twice : Record
retired_twice = Retired 0 ∷ so_far 32 first_run

-- an Abandon for numbers that are not used up
abbrev pub numbers_not_used_up : Record
numbers_not_used_up = Abandon (Numbers 2 2) ∷ so_far 4 first_run
