-- Two lines to a buffer of one event that drops the newest, and a line that nobody reads.
use Rattle.std.specs.Prelude.{[], ◌∷◌, ◌++◌, codes}
use Rattle.vx_status.specs.declared.outcome.Outcome.TheVariants.{NewestDropped, NoConsumer}
use Rattle.vx_plan.specs.declared.plan.Plan.{Plan}
use Rattle.vx_record.specs.declared.entry.Entry.TheVariants.{Split, Spent}
use Rattle.vx_record.specs.Records.{Record}
use Rattle.vx_examples.specs.Parts.{source, sink, drop, plan_with, event_with, child}
use Rattle.vx_examples.specs.Phrases.{recorded, begins, turn, taken_in, told_the_end, confirmed, passed_on, written, noticed, ended}

abbrev pub plan : Plan
plan = plan_with (source (codes "in") ∷ source (codes "u") ∷ sink (codes "out") (codes "in") drop ∷ [])

abbrev pub run : Record
run =
    recorded (begins plan ∷ turn 0 0 (taken_in 0 3 (97 ∷ 10 ∷ 98 ∷ 10 ∷ []) 0 (event_with 97 ∷ event_with 98 ∷ []) 4)
    ∷ passed_on 0 2 0 (event_with 97) 2
    ∷ (Split 0 1 (1 ∷ []) (event_with 98) (child 2 3 ∷ []) ∷ Spent 0 3 NewestDropped ∷ [])
    ∷ turn 2 0 (written 2 2 (97 ∷ 10 ∷ []) ++ noticed 0) ∷ turn 1 0 (taken_in 1 0 (99 ∷ 10 ∷ []) 4 (event_with 99 ∷ []) 2)
    ∷ (Spent 1 4 NoConsumer ∷ noticed 4) ∷ turn 1 0 (confirmed 1 0 2 ++ told_the_end 1) ∷ ended 1 0
    ∷ turn 0 0 (confirmed 0 3 4 ++ told_the_end 0) ∷ ended 0 0 ∷ ended 2 0 ∷ [])
