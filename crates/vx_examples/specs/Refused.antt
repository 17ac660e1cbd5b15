-- Records that differ from the first run in one entry, and that no further entry makes legal.
use Rattle.std.specs.Prelude.{true, false, [], ◌∷◌, ◌++◌}
use Rattle.vx_ends.specs.declared.trouble.Reply.TheVariants.{Ok, Failed}
use Rattle.vx_status.specs.declared.outcome.Outcome.TheVariants.{Delivered}
use Rattle.vx_status.specs.declared.batch_status.BatchStatus.TheVariants as batch
use Rattle.vx_record.specs.Starting.{first_instances}
use Rattle.vx_record.specs.Legal.{IsLegal}
use Rattle.vx_record.specs.declared.taken.Taken.TheVariants.{Bytes}
use Rattle.vx_record.specs.declared.abandon_cause.AbandonCause.TheVariants.{WantOfMemory, Grace}
use Rattle.vx_record.specs.declared.entry.Entry.TheVariants.{Install, Lease, Home, Read, Born, Split, Push, Take, Attempt, Spent, Notice, Confirm, Closed, Retired, Abandon}
use Rattle.vx_record.specs.Records.{Record}
use Rattle.vx_examples.specs.FirstRun.{first_run}
use Rattle.vx_examples.specs.Parts.{child}
use Rattle.vx_examples.specs.Phrases.{so_far}
use Rattle.vx_examples.specs.FirstRun as first

-- no record is legal that begins so
abbrev pub NeverLegal : Record → Type 0
NeverLegal h = (later : Record) → IsLegal (later ++ h) → ⊥

-- a second Install
abbrev pub second_install : Record
second_install = Install 1 first.plan false (first_instances 0 first.plan.components) 0 ∷ so_far 1 first_run

-- a Lease of a sink that has nothing to take
abbrev pub lease_without_work : Record
lease_without_work = Lease 1 0 0 0 ∷ so_far 1 first_run

-- a Lease of an instance that is out
abbrev pub lease_of_one_out : Record
lease_of_one_out = Lease 0 0 0 0 ∷ so_far 2 first_run

-- two Reads under one Lease
abbrev pub second_read : Record
second_read = Read 0 0 (Bytes (97 ∷ 10 ∷ [])) ∷ so_far 4 first_run

-- a Born that leaves out a line of its Read
abbrev pub lost_line : Record
lost_line = Born 0 0 0 (0 ∷ []) (first.event_a ∷ []) false 0 4 ∷ so_far 3 first_run

-- a Born whose position is not behind its last line
abbrev pub wrong_position : Record
wrong_position = Born 0 0 0 (0 ∷ 1 ∷ []) (first.event_a ∷ first.event_b ∷ []) false 0 2 ∷ so_far 3 first_run

-- a Born that waits, though no sink acknowledges
abbrev pub needless_wait : Record
needless_wait = Born 0 0 0 (0 ∷ 1 ∷ []) (first.event_a ∷ first.event_b ∷ []) true 0 4 ∷ so_far 3 first_run

-- a Born whose copies begin at a number that is not the next
abbrev pub used_number : Record
used_number = Born 0 1 0 (1 ∷ 2 ∷ []) (first.event_a ∷ first.event_b ∷ []) false 0 4 ∷ so_far 3 first_run

-- a Split of an output that is not the oldest
abbrev pub split_of_the_younger : Record
split_of_the_younger = Split 0 1 (1 ∷ []) first.event_b (child 1 2 ∷ []) ∷ so_far 5 first_run

-- a Split while the instance is out
abbrev pub split_while_out : Record
split_while_out = Split 0 1 (0 ∷ []) first.event_a (child 1 2 ∷ []) ∷ so_far 4 first_run

-- a Split whose child has the copy that it replaces
abbrev pub shared_copy : Record
shared_copy = Split 0 1 (0 ∷ []) first.event_a (child 1 0 ∷ []) ∷ so_far 5 first_run

-- a Split with a child for an instance that is no target
abbrev pub child_for_another : Record
child_for_another = Split 0 1 (0 ∷ []) first.event_a (child 0 2 ∷ []) ∷ so_far 5 first_run

-- a Split whose event is not its parcel's
abbrev pub changed_event : Record
changed_event = Split 0 1 (0 ∷ []) first.event_b (child 1 2 ∷ []) ∷ so_far 5 first_run

-- a Push into another stage than the first with room
abbrev pub push_past_room : Record
push_past_room = Push 0 1 1 (2 ∷ []) ∷ so_far 6 first_run

-- a Push of a child that was pushed
abbrev pub pushed_twice : Record
pushed_twice = Push 0 1 0 (2 ∷ []) ∷ so_far 7 first_run

-- a Take of a parcel that is not the oldest
abbrev pub take_of_the_younger : Record
take_of_the_younger = Take 1 0 (3 ∷ []) ∷ so_far 10 first_run

-- a Take into a sink batch that is closed
abbrev pub take_past_the_batch : Record
take_past_the_batch = Take 1 0 (3 ∷ []) ∷ so_far 11 first_run

-- an Attempt with the reply Ok that gave a part
abbrev pub part_answered_ok : Record
part_answered_ok = Attempt 1 (2 ∷ []) (97 ∷ []) Ok ∷ so_far 11 first_run

-- an Attempt that gave other bytes
abbrev pub other_bytes : Record
other_bytes = Attempt 1 (2 ∷ []) (98 ∷ []) Failed ∷ so_far 11 first_run

-- a copy delivered after a failed Attempt
abbrev pub delivered_after_a_failure : Record
delivered_after_a_failure = Spent 1 2 Delivered ∷ Attempt 1 (2 ∷ []) (97 ∷ []) Failed ∷ so_far 11 first_run

-- a copy spent twice
abbrev pub spent_twice : Record
spent_twice = Spent 1 2 Delivered ∷ so_far 13 first_run

-- a copy spent by an instance where it does not stand
abbrev pub spent_elsewhere : Record
spent_elsewhere = Spent 0 2 Delivered ∷ so_far 12 first_run

-- a Notice while a copy of the batch is live
abbrev pub early_notice : Record
early_notice = Notice 0 batch.Delivered ∷ so_far 13 first_run

-- another entry where a Notice is due
abbrev pub late_notice : Record
late_notice = Home 1 ∷ so_far 18 first_run

-- a Notice with a status that the tables do not fold
abbrev pub wrong_status : Record
wrong_status = Notice 0 batch.Errored ∷ so_far 18 first_run

-- a Confirm under the Lease of the Read that it confirms
abbrev pub early_confirm : Record
early_confirm = Confirm 0 (record { stream = 0; end = 4 } ∷ []) true ∷ so_far 4 first_run

-- a Confirm of another position than the one due
abbrev pub confirm_of_less : Record
confirm_of_less = Confirm 0 (record { stream = 0; end = 2 } ∷ []) true ∷ so_far 21 first_run

-- a Lease of a sink whose Attempt decided and left its copy unspent
abbrev pub lease_of_a_debtor : Record
lease_of_a_debtor = Lease 1 0 0 0 ∷ Home 1 ∷ so_far 12 first_run

-- a Lease that finds nothing, and a Read after the end of all
abbrev pub read_past_the_end : Record
read_past_the_end = Read 0 0 (Bytes (97 ∷ 10 ∷ [])) ∷ so_far 29 first_run

-- a port closed before its source is done
abbrev pub close_too_soon : Record
close_too_soon = Closed 0 ∷ so_far 2 first_run

-- an instance retired before its port is closed
abbrev pub retired_with_its_port_open : Record
retired_with_its_port_open = Retired 0 ∷ so_far 24 first_run

-- an Abandon for the grace limit without a Stop
abbrev pub grace_without_a_stop : Record
grace_without_a_stop = Abandon (Grace 0 60000 60000) ∷ so_far 9 first_run

-- a Lease after an Abandon
abbrev pub lease_after_an_abandon : Record
lease_after_an_abandon = Lease 1 0 0 0 ∷ Abandon WantOfMemory ∷ so_far 9 first_run

-- a copy delivered after an Abandon
abbrev pub delivered_after_an_abandon : Record
delivered_after_an_abandon = Spent 1 2 Delivered ∷ Abandon WantOfMemory ∷ so_far 12 first_run
