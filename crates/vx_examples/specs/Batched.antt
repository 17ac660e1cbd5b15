-- Sink batches of two from a buffer of two stages: full, timed out, and the last one.
use Rattle.std.specs.Prelude.{false, [], ◌∷◌, ◌++◌, codes}
use Rattle.vx_value.specs.declared.event.Event.{Event}
use Rattle.vx_plan.specs.declared.plan.Plan.{Plan}
use Rattle.vx_record.specs.declared.taken.Taken.TheVariants.{Bytes}
use Rattle.vx_record.specs.declared.entry.Entry.TheVariants.{Read, Born, Split, Push, Take}
use Rattle.vx_record.specs.Records.{Record}
use Rattle.vx_examples.specs.Parts.{source, batching, plan_with, event_from, event_with, child}
use Rattle.vx_examples.specs.Phrases.{recorded, begins, turn, taken_in, told_the_end, confirmed, passed_on, gathered, delivered, noticed, ended}

abbrev pub plan : Plan
plan = plan_with (source (codes "in") ∷ batching (codes "out") (codes "in") ∷ [])

-- the event of the line `de`
abbrev pub event_de : Event
event_de = event_from (codes "stdin") (codes "de")

abbrev pub run : Record
run =
    recorded (begins plan
    ∷ turn 0 0 (taken_in 0 0 (97 ∷ 10 ∷ 98 ∷ 10 ∷ 99 ∷ 10 ∷ 100 ∷ []) 0 (event_with 97 ∷ event_with 98 ∷ event_with 99 ∷ []) 6)
    ∷ passed_on 0 1 0 (event_with 97) 3
    ∷ (Split 0 1 (1 ∷ []) (event_with 98) (child 1 4 ∷ []) ∷ Push 0 1 1 (4 ∷ []) ∷ Split 0 1 (2 ∷ []) (event_with 99) (child 1 5 ∷ []) ∷ [])
    ∷ turn 1 0 (gathered 1 (3 ∷ []) ++ (Take 1 1 (4 ∷ []) ∷ delivered 1 (3 ∷ 4 ∷ []) (97 ∷ 10 ∷ 98 ∷ 10 ∷ [])))
    ∷ (Push 0 1 0 (5 ∷ []) ∷ turn 1 0 (gathered 1 (5 ∷ []))) ∷ turn 1 1000 (delivered 1 (5 ∷ []) (99 ∷ 10 ∷ []) ++ noticed 0)
    ∷ turn 0 1000 (confirmed 0 0 6 ++ (Read 0 0 (Bytes (101 ∷ 10 ∷ [])) ∷ Born 0 6 1 (6 ∷ []) (event_de ∷ []) false 0 9 ∷ []))
    ∷ passed_on 0 1 6 event_de 7 ∷ turn 1 1000 (gathered 1 (7 ∷ [])) ∷ turn 0 1000 (told_the_end 0)
    ∷ turn 1 1000 (delivered 1 (7 ∷ []) (100 ∷ 101 ∷ 10 ∷ []) ++ noticed 6)
    ∷ turn 0 1000 (confirmed 0 0 9) ∷ ended 0 1000 ∷ ended 1 1000 ∷ [])
