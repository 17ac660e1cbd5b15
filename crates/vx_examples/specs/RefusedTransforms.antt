-- Records that differ from the runs with transforms, stages, retries and generated lines in one entry.
use Rattle.std.specs.Prelude.{◌^◌, [], ◌∷◌}
use Rattle.vx_ends.specs.declared.trouble.Reply.TheVariants.{Ok, Refused}
use Rattle.vx_status.specs.declared.outcome.Outcome.TheVariants.{Filtered, NewestDropped, NoConsumer}
use Rattle.vx_status.specs.declared.batch_status.BatchStatus.TheVariants as batch
use Rattle.vx_record.specs.declared.taken.Taken.TheVariants.{Bytes, AllEnded}
use Rattle.vx_record.specs.declared.abandon_cause.AbandonCause.TheVariants.{WantOfMemory}
use Rattle.vx_record.specs.declared.entry.Entry.TheVariants.{Lease, Home, Read, Split, Push, Take, Tick, Answer, Attempt, Spent, Notice, Retired, Abandon}
use Rattle.vx_record.specs.Records.{Record}
use Rattle.vx_examples.specs.Parts.{event_with, child, output}
use Rattle.vx_examples.specs.Phrases.{so_far}
use Rattle.vx_examples.specs.Filtered as filtered
use Rattle.vx_examples.specs.Routed as routed
use Rattle.vx_examples.specs.Joined as joined
use Rattle.vx_examples.specs.Retried as retried
use Rattle.vx_examples.specs.Overflowing as overflowing
use Rattle.vx_examples.specs.Generated as generated
use Rattle.vx_examples.specs.Chained as chained

-- an Answer of a transform that is unleased
abbrev pub answer_unleased : Record
answer_unleased = Answer 1 [] [] [] ∷ so_far 9 filtered.run

-- an Answer of a sink
abbrev pub answer_of_a_sink : Record
answer_of_a_sink = Answer 2 [] [] (4 ∷ []) ∷ so_far 19 filtered.run

-- an Answer that loses a copy
abbrev pub answer_that_loses : Record
answer_that_loses = Answer 1 (output (3 ∷ []) (event_with 107) ∷ []) [] [] ∷ so_far 12 filtered.run

-- an Answer that puts a copy out twice
abbrev pub answer_that_doubles : Record
answer_that_doubles = Answer 1 (output (3 ∷ []) (event_with 107) ∷ output (3 ∷ []) (event_with 107) ∷ []) (2 ∷ []) [] ∷ so_far 12 filtered.run

-- an Answer that puts out a copy which the transform does not hold
abbrev pub answer_of_another_copy : Record
answer_of_another_copy = Answer 1 (output (3 ∷ []) (event_with 107) ∷ output (1 ∷ []) (event_with 98) ∷ []) (2 ∷ []) [] ∷ so_far 12 filtered.run

-- an Answer that keeps copies in another order than it took them
abbrev pub answer_in_another_order : Record
answer_in_another_order = Answer 1 [] [] (3 ∷ 2 ∷ 5 ∷ []) ∷ so_far 19 joined.run

-- a filter that neither puts out nor discards a parcel
abbrev pub filter_that_keeps : Record
filter_that_keeps = Answer 1 (output (3 ∷ []) (event_with 107) ∷ []) [] (2 ∷ []) ∷ so_far 12 filtered.run

-- a Lease of a transform that took a parcel and has not answered
abbrev pub lease_owing_an_answer : Record
lease_owing_an_answer = Lease 1 0 0 0 ∷ Home 1 ∷ so_far 11 filtered.run

-- a Lease of a transform whose discarded copy is unspent
abbrev pub lease_owing_a_discard : Record
lease_owing_a_discard = Lease 1 0 0 0 ∷ Home 1 ∷ so_far 13 filtered.run

-- a second Answer while a discarded copy is unspent
abbrev pub second_answer : Record
second_answer = Answer 1 [] [] (2 ∷ []) ∷ so_far 13 filtered.run

-- a copy filtered that the last Answer put out
abbrev pub filtered_though_passed : Record
filtered_though_passed = Spent 1 3 Filtered ∷ so_far 13 filtered.run

-- a Take behind an Answer of the same turn
abbrev pub take_behind_an_answer : Record
take_behind_an_answer = Take 1 0 (3 ∷ []) ∷ Answer 1 [] (2 ∷ []) [] ∷ so_far 11 filtered.run

-- a Split on a port on which the output was not put out
abbrev pub split_of_another_port : Record
split_of_another_port = Split 1 2 (3 ∷ []) (event_with 107) (child 2 4 ∷ []) ∷ so_far 15 filtered.run

-- a Split whose event is not the one that the Answer put out
abbrev pub split_of_another_event : Record
split_of_another_event = Split 1 1 (3 ∷ []) (event_with 97) (child 2 4 ∷ []) ∷ so_far 15 filtered.run

-- a Tick of a transform that never acts by itself
abbrev pub tick_of_a_filter : Record
tick_of_a_filter = Tick 1 0 ∷ so_far 12 filtered.run

-- a Lease of a transform that has nothing
abbrev pub lease_of_an_idle_transform : Record
lease_of_an_idle_transform = Lease 1 0 0 0 ∷ so_far 1 filtered.run

-- a transform retired while it holds a parcel
abbrev pub retired_with_a_kept_parcel : Record
retired_with_a_kept_parcel = Retired 1 ∷ so_far 29 joined.run

-- a copy spent for want of a target, though its port has one
abbrev pub unread_though_a_way_is_read : Record
unread_though_a_way_is_read = Spent 1 2 NoConsumer ∷ so_far 14 routed.run

-- a Split of an output whose port nobody reads
abbrev pub split_of_an_unread_port : Record
split_of_an_unread_port = Split 1 2 (3 ∷ []) (event_with 122) (child 2 5 ∷ []) ∷ so_far 16 routed.run

-- a route that puts out on a port which it does not have
abbrev pub no_such_port : Record
no_such_port = Answer 1 (output (2 ∷ []) (event_with 107) ∷ record { ports = 4; copies = 3 ∷ []; event = event_with 122 } ∷ []) [] [] ∷ so_far 12 routed.run

-- a Lease of a transform before its check
abbrev pub lease_before_the_tick : Record
lease_before_the_tick = Lease 1 0 999 0 ∷ so_far 21 joined.run

-- a Tick at another moment than its Lease
abbrev pub tick_at_another_moment : Record
tick_at_another_moment = Tick 1 1001 ∷ so_far 22 joined.run

-- a Tick directly behind the check
abbrev pub second_tick : Record
second_tick = Tick 1 1000 ∷ so_far 23 joined.run

-- a flush while more can come
abbrev pub flush_too_soon : Record
flush_too_soon = Answer 1 (output (2 ∷ 3 ∷ 5 ∷ []) (event_with 97) ∷ []) [] [] ∷ so_far 20 joined.run

-- a group put out with its copies in another order
abbrev pub joined_in_another_order : Record
joined_in_another_order = Answer 1 (output (3 ∷ 2 ∷ 5 ∷ []) (event_with 97) ∷ []) [] [] ∷ so_far 30 joined.run

-- a group put out with another event
abbrev pub joined_with_another_event : Record
joined_with_another_event = Answer 1 (output (2 ∷ 3 ∷ 5 ∷ []) (event_with 98) ∷ []) [] [] ∷ so_far 30 joined.run

-- a group put out at a check at which it is young
abbrev pub young_group_put_out : Record
young_group_put_out = Answer 1 (output (2 ∷ 3 ∷ 5 ∷ []) (event_with 97) ∷ []) [] [] ∷ so_far 23 joined.run

-- a Split of a part of a joined parcel
abbrev pub split_of_a_part : Record
split_of_a_part = Split 1 1 (2 ∷ 3 ∷ []) (event_with 97) (record { target = 2; copies = 6 ∷ 7 ∷ [] } ∷ []) ∷ so_far 32 joined.run

-- a Notice of another batch than the one whose last copy was spent
abbrev pub notice_of_another_batch : Record
notice_of_another_batch = Notice 4 batch.Delivered ∷ so_far 42 joined.run

-- a Read of a generator that gives other lines
abbrev pub other_lines : Record
other_lines = Read 0 0 (Bytes (114 ∷ 10 ∷ [])) ∷ so_far 2 generated.run

-- a Read of a generator behind its last line
abbrev pub lines_past_the_count : Record
lines_past_the_count = Read 0 0 (Bytes (113 ∷ 10 ∷ [])) ∷ so_far 26 generated.run

-- an Attempt of a sink without a port that is refused
abbrev pub refused_by_a_blackhole : Record
refused_by_a_blackhole = Attempt 1 (1 ∷ []) [] Refused ∷ so_far 9 generated.run

-- a Push into a stage while an earlier one has room
abbrev pub push_past_the_first_stage : Record
push_past_the_first_stage = Push 0 1 1 (3 ∷ []) ∷ so_far 6 overflowing.run

-- a copy dropped as the newest while an overflow stage has room
abbrev pub dropped_with_room_behind : Record
dropped_with_room_behind = Spent 0 4 NewestDropped ∷ so_far 8 overflowing.run

-- a Take from a stage while an earlier one has a parcel
abbrev pub take_past_the_first_stage : Record
take_past_the_first_stage = Take 1 1 (4 ∷ []) ∷ so_far 12 overflowing.run

-- an Answer after an Abandon
abbrev pub answer_after_an_abandon : Record
answer_after_an_abandon = Answer 1 (output (3 ∷ []) (event_with 107) ∷ []) (2 ∷ []) [] ∷ Abandon WantOfMemory ∷ so_far 12 filtered.run

-- a Tick after an Abandon
abbrev pub tick_after_an_abandon : Record
tick_after_an_abandon = Tick 1 1000 ∷ Abandon WantOfMemory ∷ so_far 22 joined.run

-- a Tick of a transform that is unleased
abbrev pub tick_unleased : Record
tick_unleased = Tick 1 1000 ∷ so_far 21 joined.run

-- a flush while parcels are in the buffer
abbrev pub flush_with_contents : Record
flush_with_contents = Answer 1 [] [] [] ∷ Lease 1 0 0 0 ∷ Home 0 ∷ Read 0 0 AllEnded ∷ Lease 0 0 0 0 ∷ so_far 9 filtered.run

-- a generator that ends before its last line
abbrev pub ended_with_lines_left : Record
ended_with_lines_left = Read 0 0 AllEnded ∷ so_far 14 generated.run

-- a generator whose lines are of another stream
abbrev pub lines_of_another_stream : Record
lines_of_another_stream = Read 0 1 (Bytes (113 ∷ 10 ∷ [])) ∷ so_far 2 generated.run

-- an Attempt of a sink without a port that gives bytes
abbrev pub bytes_into_a_blackhole : Record
bytes_into_a_blackhole = Attempt 1 (1 ∷ []) (113 ∷ 10 ∷ []) Ok ∷ so_far 9 generated.run

-- a host that loses a copy
abbrev pub host_that_loses : Record
host_that_loses = Answer 3 [] [] [] ∷ so_far 33 chained.run

-- a dedupe that puts out a repeat
abbrev pub repeat_put_out : Record
repeat_put_out = Answer 2 (output (6 ∷ []) (event_with 97) ∷ output (7 ∷ []) (event_with 97) ∷ []) [] [] ∷ so_far 25 chained.run

-- a sample that puts out what it should discard
abbrev pub second_put_out : Record
second_put_out = Answer 1 (output (3 ∷ []) (event_with 97) ∷ output (4 ∷ []) (event_with 98) ∷ output (5 ∷ []) (event_with 97) ∷ []) [] [] ∷ so_far 15 chained.run

-- a host that puts out a parcel of no copy
abbrev pub host_without_a_copy : Record
host_without_a_copy = Answer 3 (output (8 ∷ []) (event_with 107) ∷ output [] (event_with 107) ∷ []) [] [] ∷ so_far 33 chained.run

-- a host that puts out a parcel on no port
abbrev pub host_on_no_port : Record
host_on_no_port = Answer 3 (record { ports = 0; copies = 8 ∷ []; event = event_with 107 } ∷ []) [] [] ∷ so_far 33 chained.run

-- a host that puts out a parcel on a port past the last that there can be
abbrev pub host_past_the_last_port : Record
host_past_the_last_port = Answer 3 (record { ports = 2 ^ 65; copies = 8 ∷ []; event = event_with 107 } ∷ []) [] [] ∷ so_far 33 chained.run

-- a Tick while another waits for its Answer
abbrev pub two_ticks : Record
two_ticks = Tick 3 0 ∷ so_far 33 chained.run

-- a host that came back behind a Tick without an Answer, and is leased again
abbrev pub ticked_host : Record
ticked_host = Lease 3 0 0 0 ∷ Home 3 ∷ Tick 3 0 ∷ so_far 31 chained.run

-- a Take while that Tick waits for its Answer
abbrev pub take_behind_a_tick : Record
take_behind_a_tick = Take 3 0 (8 ∷ []) ∷ ticked_host

-- a host that holds a parcel when nothing more can come
abbrev pub keeping_host : Record
keeping_host = Lease 3 0 0 0 ∷ Retired 2 ∷ Retired 1 ∷ Home 0 ∷ Read 0 0 AllEnded ∷ Lease 0 0 0 0 ∷ Home 3 ∷ Answer 3 [] [] (8 ∷ []) ∷ so_far 33 chained.run

-- a flush that keeps it
abbrev pub flush_that_keeps : Record
flush_that_keeps = Answer 3 [] [] (8 ∷ []) ∷ keeping_host

-- a generator that ends on another stream
abbrev pub ended_on_another_stream : Record
ended_on_another_stream = Read 0 1 AllEnded ∷ so_far 26 generated.run

-- a Lease of a sink whose attempt failed, before its wait is over
abbrev pub hasty_retry : Record
hasty_retry = Lease 2 0 1999 0 ∷ so_far 38 retried.run

-- a Lease of a source that rests
abbrev pub restless_lease : Record
restless_lease = Lease 0 0 999 0 ∷ so_far 13 generated.run
