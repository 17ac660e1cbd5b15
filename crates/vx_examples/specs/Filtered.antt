-- A filter that discards one line of two.
use Rattle.std.specs.Prelude.{[], ◌∷◌, ◌++◌, codes}
use Rattle.vx_status.specs.declared.outcome.Outcome.TheVariants.{Filtered}
use Rattle.vx_plan.specs.declared.settings.Settings.TheVariants.{Filter}
use Rattle.vx_plan.specs.declared.plan.Plan.{Plan}
use Rattle.vx_plan.specs.declared.component.Component.{Component}
use Rattle.vx_record.specs.declared.entry.Entry.TheVariants.{Answer, Spent, Retired}
use Rattle.vx_record.specs.Records.{Record}
use Rattle.vx_examples.specs.Parts.{source, transform, sink, block, plan_with, event_with, output}
use Rattle.vx_examples.specs.Phrases.{recorded, begins, turn, taken_in, told_the_end, confirmed, passed_on, gathered, written, noticed, ended}

-- it passes the line `k` alone
abbrev pub filter_k : Component
filter_k = transform (codes "f") (codes "in") (Filter (codes ".message == \"k\""))

abbrev pub plan : Plan
plan = plan_with (source (codes "in") ∷ filter_k ∷ sink (codes "out") (codes "f") block ∷ [])

abbrev pub run : Record
run =
    recorded (begins plan ∷ turn 0 0 (taken_in 0 0 (97 ∷ 10 ∷ 107 ∷ 10 ∷ []) 0 (event_with 97 ∷ event_with 107 ∷ []) 4)
    ∷ passed_on 0 1 0 (event_with 97) 2 ∷ passed_on 0 1 1 (event_with 107) 3
    ∷ turn 1 0 (gathered 1 (2 ∷ 3 ∷ []) ++ (Answer 1 (output (3 ∷ []) (event_with 107) ∷ []) (2 ∷ []) [] ∷ Spent 1 2 Filtered ∷ []))
    ∷ passed_on 1 2 3 (event_with 107) 4 ∷ turn 2 0 (written 2 4 (107 ∷ 10 ∷ []) ++ noticed 0)
    ∷ turn 0 0 (confirmed 0 0 4 ++ told_the_end 0) ∷ ended 0 0 ∷ (Retired 1 ∷ ended 2 0) ∷ [])
