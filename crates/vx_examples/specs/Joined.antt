-- A reduce that joins three events of two batches.
use Rattle.std.specs.Prelude.{None, [], ◌∷◌, ◌++◌, codes}
use Rattle.vx_ends.specs.declared.trouble.Reply.TheVariants.{Ok}
use Rattle.vx_status.specs.declared.outcome.Outcome.TheVariants.{Delivered}
use Rattle.vx_plan.specs.declared.settings.Settings.TheVariants.{Reduce}
use Rattle.vx_plan.specs.declared.plan.Plan.{Plan}
use Rattle.vx_plan.specs.declared.component.Component.{Component}
use Rattle.vx_record.specs.declared.entry.Entry.TheVariants.{Split, Push, Take, Tick, Answer, Attempt, Spent, Retired}
use Rattle.vx_record.specs.Records.{Record}
use Rattle.vx_examples.specs.Parts.{source, transform, retrying, block, plan_with, event_with, output}
use Rattle.vx_examples.specs.Phrases.{Phrase, recorded, begins, turn, taken_in, told_the_end, confirmed, passed_on, gathered, noticed, ended}

-- it has one group
abbrev pub reduce_all : Component
reduce_all = transform (codes "r") (codes "in") (Reduce [] None None 30000 1000 [])

abbrev pub plan : Plan
plan = plan_with (source (codes "in") ∷ reduce_all ∷ retrying (codes "out") (codes "r") block 1 ∷ [])

-- the joined parcel is delivered, and with its copies both batches
abbrev pub all_delivered : Phrase
all_delivered =
    Attempt 2 (6 ∷ 7 ∷ 8 ∷ []) (97 ∷ 10 ∷ []) Ok ∷ Spent 2 6 Delivered ∷ Spent 2 7 Delivered
    ∷ (noticed 0 ++ (Spent 2 8 Delivered ∷ noticed 4))

abbrev pub run : Record
run =
    recorded (begins plan ∷ turn 0 0 (taken_in 0 0 (97 ∷ 10 ∷ 98 ∷ 10 ∷ []) 0 (event_with 97 ∷ event_with 98 ∷ []) 4)
    ∷ passed_on 0 1 0 (event_with 97) 2 ∷ passed_on 0 1 1 (event_with 98) 3
    ∷ turn 0 0 (taken_in 0 0 (99 ∷ 10 ∷ []) 4 (event_with 99 ∷ []) 6) ∷ passed_on 0 1 4 (event_with 99) 5
    ∷ turn 1 0 (gathered 1 (2 ∷ 3 ∷ 5 ∷ []) ++ (Answer 1 [] [] (2 ∷ 3 ∷ 5 ∷ []) ∷ []))
    ∷ turn 1 1000 (Tick 1 1000 ∷ Answer 1 [] [] (2 ∷ 3 ∷ 5 ∷ []) ∷ []) ∷ turn 0 1000 (confirmed 0 0 6 ++ told_the_end 0)
    ∷ turn 1 1000 (Answer 1 (output (2 ∷ 3 ∷ 5 ∷ []) (event_with 97) ∷ []) [] [] ∷ [])
    ∷ (Split 1 1 (2 ∷ 3 ∷ 5 ∷ []) (event_with 97) (record { target = 2; copies = 6 ∷ 7 ∷ 8 ∷ [] } ∷ [])
    ∷ Push 1 2 0 (6 ∷ 7 ∷ 8 ∷ []) ∷ turn 2 1000 (Take 2 0 (6 ∷ 7 ∷ 8 ∷ []) ∷ []))
    ∷ (Retired 1 ∷ turn 2 2000 all_delivered) ∷ ended 0 2000 ∷ ended 2 2000 ∷ [])
