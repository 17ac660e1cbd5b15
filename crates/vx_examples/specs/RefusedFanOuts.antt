-- Records that differ from the run with three targets in one entry, and that no further entry makes legal.
use Rattle.std.specs.Prelude.{[], ◌∷◌}
use Rattle.vx_status.specs.declared.batch_status.BatchStatus.TheVariants as batch
use Rattle.vx_record.specs.declared.entry.Entry.TheVariants.{Split, Notice}
use Rattle.vx_record.specs.Records.{Record}
use Rattle.vx_examples.specs.Parts.{event_with, child}
use Rattle.vx_examples.specs.Phrases.{so_far}
use Rattle.vx_examples.specs.ThreeTargets as three_targets

-- a Split that makes the child for its second target before the one for its first
abbrev pub swapped_targets : Record
swapped_targets = Split 0 1 (0 ∷ []) (event_with 97) (child 2 1 ∷ child 1 2 ∷ child 3 3 ∷ []) ∷ so_far 5 three_targets.run

-- a Split with a child that has the copy of another child
abbrev pub copy_of_another_child : Record
copy_of_another_child = Split 0 1 (0 ∷ []) (event_with 97) (child 1 1 ∷ child 2 2 ∷ child 3 2 ∷ []) ∷ so_far 5 three_targets.run

-- a Notice behind the second of three copies spent
abbrev pub notice_before_the_third : Record
notice_before_the_third = Notice 0 batch.Rejected ∷ so_far 18 three_targets.run

-- a Notice that says Delivered, though one of three targets refused its copy
abbrev pub delivered_past_a_refusal : Record
delivered_past_a_refusal = Notice 0 batch.Delivered ∷ so_far 23 three_targets.run

-- a Notice that says Errored, though one of three targets refused its copy
abbrev pub errored_by_a_refusal : Record
errored_by_a_refusal = Notice 0 batch.Errored ∷ so_far 23 three_targets.run
