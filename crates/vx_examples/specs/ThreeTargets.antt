-- One line to three sinks, of which the second refuses it and the others take it.
use Rattle.std.specs.Prelude.{[], ◌∷◌, ◌++◌, codes}
use Rattle.vx_status.specs.declared.batch_status.BatchStatus.TheVariants as batch
use Rattle.vx_plan.specs.declared.plan.Plan.{Plan}
use Rattle.vx_record.specs.declared.entry.Entry.TheVariants.{Split, Push, Notice}
use Rattle.vx_record.specs.Records.{Record}
use Rattle.vx_examples.specs.Parts.{source, sink, block, plan_with, event_with, child}
use Rattle.vx_examples.specs.Phrases.{recorded, begins, turn, taken_in, told_the_end, confirmed, written, refused, ended}

abbrev pub plan : Plan
plan =
    plan_with (source (codes "in") ∷ sink (codes "s1") (codes "in") block ∷ sink (codes "s2") (codes "i*") block
    ∷ sink (codes "s3") (codes "*") block ∷ [])

abbrev pub run : Record
run =
    recorded (begins plan ∷ turn 0 0 (taken_in 0 0 (97 ∷ 10 ∷ []) 0 (event_with 97 ∷ []) 2)
    ∷ (Split 0 1 (0 ∷ []) (event_with 97) (child 1 1 ∷ child 2 2 ∷ child 3 3 ∷ [])
    ∷ Push 0 3 0 (3 ∷ []) ∷ Push 0 1 0 (1 ∷ []) ∷ Push 0 2 0 (2 ∷ []) ∷ [])
    ∷ turn 1 0 (written 1 1 (97 ∷ 10 ∷ [])) ∷ turn 2 0 (refused 2 2 (97 ∷ 10 ∷ []))
    ∷ turn 3 0 (written 3 3 (97 ∷ 10 ∷ []) ++ (Notice 0 batch.Rejected ∷ []))
    ∷ turn 0 0 (confirmed 0 0 2 ++ told_the_end 0) ∷ ended 0 0 ∷ ended 1 0 ∷ ended 2 0 ∷ ended 3 0 ∷ [])
