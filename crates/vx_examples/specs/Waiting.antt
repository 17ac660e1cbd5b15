-- Batches that wait: the first is delivered and confirmed, the second fails and is not.
use Rattle.std.specs.Prelude.{true, [], ◌∷◌, ◌++◌, codes}
use Rattle.vx_ends.specs.declared.trouble.Reply.TheVariants.{Failed}
use Rattle.vx_status.specs.declared.outcome.Outcome.TheVariants.{Attempts}
use Rattle.vx_status.specs.declared.batch_status.BatchStatus.TheVariants as batch
use Rattle.vx_plan.specs.declared.plan.Plan.{Plan}
use Rattle.vx_record.specs.declared.taken.Taken.TheVariants.{Bytes}
use Rattle.vx_record.specs.declared.entry.Entry.TheVariants.{Read, Born, Take, Attempt, Spent, Notice}
use Rattle.vx_record.specs.Records.{Record}
use Rattle.vx_examples.specs.Parts.{source, acknowledging, plan_with, event_with}
use Rattle.vx_examples.specs.Phrases.{recorded, begins, turn, told_the_end, confirmed, passed_on, written, noticed, ended}

abbrev pub plan : Plan
plan = plan_with (source (codes "in") ∷ acknowledging (codes "out") (codes "in") ∷ [])

abbrev pub run : Record
run =
    recorded (begins plan ∷ turn 0 0 (Read 0 0 (Bytes (97 ∷ 10 ∷ [])) ∷ Born 0 0 0 (0 ∷ []) (event_with 97 ∷ []) true 0 2 ∷ [])
    ∷ passed_on 0 1 0 (event_with 97) 1 ∷ turn 1 0 (written 1 1 (97 ∷ 10 ∷ []) ++ noticed 0)
    ∷ turn 0 0 (confirmed 0 0 2 ++ (Read 0 0 (Bytes (98 ∷ 10 ∷ [])) ∷ Born 0 2 0 (2 ∷ []) (event_with 98 ∷ []) true 0 4 ∷ []))
    ∷ passed_on 0 1 2 (event_with 98) 3
    ∷ turn 1 0 (Take 1 0 (3 ∷ []) ∷ Attempt 1 (3 ∷ []) [] Failed ∷ Spent 1 3 Attempts ∷ Notice 2 batch.Errored ∷ [])
    ∷ turn 0 0 (told_the_end 0) ∷ ended 0 0 ∷ ended 1 0 ∷ [])
