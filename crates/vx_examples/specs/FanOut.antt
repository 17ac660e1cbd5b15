-- One line without a line feed, to two sinks, of which the first refuses it.
use Rattle.std.specs.Prelude.{false, [], ◌∷◌, ◌++◌, codes}
use Rattle.vx_status.specs.declared.batch_status.BatchStatus.TheVariants as batch
use Rattle.vx_plan.specs.declared.plan.Plan.{Plan}
use Rattle.vx_record.specs.declared.taken.Taken.TheVariants.{Bytes}
use Rattle.vx_record.specs.declared.entry.Entry.TheVariants.{Read, Born, Split, Push, Notice}
use Rattle.vx_record.specs.Records.{Record}
use Rattle.vx_examples.specs.Parts.{source, sink, block, plan_with, event_with, child}
use Rattle.vx_examples.specs.Phrases.{recorded, begins, turn, told_the_end, confirmed, written, refused, ended}

abbrev pub plan : Plan
plan = plan_with (source (codes "in") ∷ sink (codes "s1") (codes "in") block ∷ sink (codes "s2") (codes "i*") block ∷ [])

abbrev pub run : Record
run =
    recorded (begins plan ∷ turn 0 0 (Read 0 0 (Bytes (97 ∷ [])) ∷ [])
    ∷ turn 0 0 (told_the_end 0 ++ (Born 0 0 0 (0 ∷ []) (event_with 97 ∷ []) false 0 1 ∷ []))
    ∷ (Split 0 1 (0 ∷ []) (event_with 97) (child 1 1 ∷ child 2 2 ∷ []) ∷ Push 0 2 0 (2 ∷ []) ∷ Push 0 1 0 (1 ∷ []) ∷ [])
    ∷ turn 0 0 (confirmed 0 0 1) ∷ turn 1 0 (refused 1 1 (97 ∷ 10 ∷ []))
    ∷ turn 2 0 (written 2 2 (97 ∷ 10 ∷ []) ++ (Notice 0 batch.Rejected ∷ [])) ∷ ended 0 0 ∷ ended 2 0 ∷ ended 1 0 ∷ [])
