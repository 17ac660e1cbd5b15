-- A sink whose first stage overflows into a second that drops the newest.
use Rattle.std.specs.Prelude.{false, [], ◌∷◌, ◌++◌, codes}
use Rattle.vx_status.specs.declared.outcome.Outcome.TheVariants.{NewestDropped}
use Rattle.vx_plan.specs.declared.plan.Plan.{Plan}
use Rattle.vx_plan.specs.declared.component.Component.{Component}
use Rattle.vx_record.specs.declared.entry.Entry.TheVariants.{Split, Push, Take, Spent}
use Rattle.vx_record.specs.Records.{Record}
use Rattle.vx_examples.specs.Parts.{source, console, options, drop, overflow, plan_with, event_with, child}
use Rattle.vx_examples.specs.Phrases.{recorded, begins, turn, taken_in, told_the_end, confirmed, passed_on, delivered, written, noticed, ended}

-- two stages of one event each
abbrev pub narrow : Component
narrow = console (codes "out") (codes "in") (options false (overflow ∷ drop ∷ []) 1 0 30)

abbrev pub plan : Plan
plan = plan_with (source (codes "in") ∷ narrow ∷ [])

abbrev pub run : Record
run =
    recorded (begins plan
    ∷ turn 0 0 (taken_in 0 0 (97 ∷ 10 ∷ 98 ∷ 10 ∷ 99 ∷ 10 ∷ []) 0 (event_with 97 ∷ event_with 98 ∷ event_with 99 ∷ []) 6)
    ∷ passed_on 0 1 0 (event_with 97) 3 ∷ (Split 0 1 (1 ∷ []) (event_with 98) (child 1 4 ∷ []) ∷ Push 0 1 1 (4 ∷ []) ∷ [])
    ∷ (Split 0 1 (2 ∷ []) (event_with 99) (child 1 5 ∷ []) ∷ Spent 0 5 NewestDropped ∷ [])
    ∷ turn 1 0 (written 1 3 (97 ∷ 10 ∷ []))
    ∷ turn 1 0 (Take 1 1 (4 ∷ []) ∷ (delivered 1 (4 ∷ []) (98 ∷ 10 ∷ []) ++ noticed 0))
    ∷ turn 0 0 (confirmed 0 0 6 ++ told_the_end 0) ∷ ended 0 0 ∷ ended 1 0 ∷ [])
