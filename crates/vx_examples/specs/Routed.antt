-- A route whose port for what no way takes is read by nobody.
use Rattle.std.specs.Prelude.{true, List, [], ◌∷◌, ◌++◌, codes}
use Rattle.vx_status.specs.declared.outcome.Outcome.TheVariants.{NoConsumer}
use Rattle.vx_plan.specs.declared.settings.Settings.TheVariants.{Route}
use Rattle.vx_plan.specs.declared.plan.Plan.{Plan}
use Rattle.vx_plan.specs.declared.component.Component.{Component}
use Rattle.vx_record.specs.declared.entry.Entry.TheVariants.{Answer, Spent, Retired}
use Rattle.vx_record.specs.declared.output.Output.{Output}
use Rattle.vx_record.specs.Records.{Record}
use Rattle.vx_examples.specs.Parts.{source, transform, sink, block, plan_with, event_with, output}
use Rattle.vx_examples.specs.Phrases.{recorded, begins, turn, taken_in, told_the_end, confirmed, passed_on, gathered, written, noticed, ended}

-- its one way takes the line `k`
abbrev pub route_k : Component
route_k = transform (codes "r") (codes "in") (Route (record { name = codes "a"; condition = codes ".message == \"k\"" } ∷ []) true)

abbrev pub plan : Plan
plan = plan_with (source (codes "in") ∷ route_k ∷ sink (codes "out") (codes "r.a") block ∷ [])

-- its answer to `k` and another line
abbrev pub routed_lines : List Output
routed_lines = output (2 ∷ []) (event_with 107) ∷ record { ports = 2; copies = 3 ∷ []; event = event_with 122 } ∷ []

abbrev pub run : Record
run =
    recorded (begins plan ∷ turn 0 0 (taken_in 0 0 (107 ∷ 10 ∷ 122 ∷ 10 ∷ []) 0 (event_with 107 ∷ event_with 122 ∷ []) 4)
    ∷ passed_on 0 1 0 (event_with 107) 2 ∷ passed_on 0 1 1 (event_with 122) 3
    ∷ turn 1 0 (gathered 1 (2 ∷ 3 ∷ []) ++ (Answer 1 routed_lines [] [] ∷ []))
    ∷ passed_on 1 2 2 (event_with 107) 4 ∷ (Spent 1 3 NoConsumer ∷ turn 2 0 (written 2 4 (107 ∷ 10 ∷ []) ++ noticed 0))
    ∷ turn 0 0 (confirmed 0 0 4 ++ told_the_end 0) ∷ ended 0 0 ∷ (Retired 1 ∷ ended 2 0) ∷ [])
