-- The port fails after one line; the sink's attempt fails after one byte.
use Rattle.std.specs.Prelude.{false, [], ◌∷◌, codes}
use Rattle.vx_ends.specs.declared.trouble.Reply.TheVariants.{Failed}
use Rattle.vx_status.specs.declared.outcome.Outcome.TheVariants.{Attempts}
use Rattle.vx_status.specs.declared.batch_status.BatchStatus.TheVariants as batch
use Rattle.vx_plan.specs.declared.plan.Plan.{Plan}
use Rattle.vx_record.specs.declared.entry.Entry.TheVariants.{SourceLost, Take, Attempt, Spent, Notice, Confirm}
use Rattle.vx_record.specs.Records.{Record}
use Rattle.vx_examples.specs.Parts.{source, retrying, block, plan_with, event_with}
use Rattle.vx_examples.specs.Phrases.{recorded, begins, turn, taken_in, passed_on, ended}

abbrev pub plan : Plan
plan = plan_with (source (codes "in") ∷ retrying (codes "out") (codes "in") block 0 ∷ [])

abbrev pub run : Record
run =
    recorded (begins plan ∷ turn 0 0 (taken_in 0 0 (97 ∷ 10 ∷ []) 0 (event_with 97 ∷ []) 2) ∷ passed_on 0 1 0 (event_with 97) 1
    ∷ turn 0 0 (SourceLost 0 2 false ∷ []) ∷ turn 0 0 (Confirm 0 (record { stream = 0; end = 2 } ∷ []) false ∷ [])
    ∷ turn 1 0 (Take 1 0 (1 ∷ []) ∷ Attempt 1 (1 ∷ []) (97 ∷ []) Failed ∷ Spent 1 1 Attempts ∷ Notice 0 batch.Errored ∷ [])
    ∷ ended 0 0 ∷ ended 1 0 ∷ [])
