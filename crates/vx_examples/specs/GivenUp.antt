-- Want of memory while the sink is out with the line.
use Rattle.std.specs.Prelude.{[], ◌∷◌, codes}
use Rattle.vx_ends.specs.declared.trouble.Reply.TheVariants.{Ok}
use Rattle.vx_status.specs.declared.outcome.Outcome.TheVariants.{Abandoned}
use Rattle.vx_status.specs.declared.batch_status.BatchStatus.TheVariants as batch
use Rattle.vx_plan.specs.declared.plan.Plan.{Plan}
use Rattle.vx_record.specs.declared.abandon_cause.AbandonCause.TheVariants.{WantOfMemory}
use Rattle.vx_record.specs.declared.entry.Entry.TheVariants.{Take, Attempt, Spent, Notice, Closed, Retired, Abandon}
use Rattle.vx_record.specs.Records.{Record}
use Rattle.vx_examples.specs.Parts.{source, sink, block, plan_with, event_with}
use Rattle.vx_examples.specs.Phrases.{recorded, begins, turn, taken_in, passed_on}

abbrev pub plan : Plan
plan = plan_with (source (codes "in") ∷ sink (codes "out") (codes "in") block ∷ [])

abbrev pub run : Record
run =
    recorded (begins plan ∷ turn 0 0 (taken_in 0 0 (97 ∷ 10 ∷ 98 ∷ 10 ∷ []) 0 (event_with 97 ∷ event_with 98 ∷ []) 4)
    ∷ passed_on 0 1 0 (event_with 97) 2
    ∷ turn 1 0 (Take 1 0 (2 ∷ []) ∷ Abandon WantOfMemory ∷ Spent 0 1 Abandoned ∷ Closed 0 ∷ Attempt 1 (2 ∷ []) (97 ∷ 10 ∷ []) Ok ∷ [])
    ∷ (Spent 1 2 Abandoned ∷ Notice 0 batch.Errored ∷ Closed 1 ∷ Retired 0 ∷ Retired 1 ∷ []) ∷ [])
