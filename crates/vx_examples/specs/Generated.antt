-- Two generated lines, a second apart, into a sink that writes nothing.
use Rattle.std.specs.Prelude.{false, [], ◌∷◌, ◌++◌, codes}
use Rattle.vx_value.specs.declared.event.Event.{Event}
use Rattle.vx_demo.specs.declared.demo_settings.DemoSettings.{DemoSettings}
use Rattle.vx_plan.specs.declared.class.Class.TheVariants.{Source, Sink}
use Rattle.vx_plan.specs.declared.settings.Settings.TheVariants.{DemoLogs, Blackhole}
use Rattle.vx_plan.specs.declared.plan.Plan.{Plan}
use Rattle.vx_plan.specs.declared.component.Component.{Component}
use Rattle.vx_record.specs.declared.entry.Entry.TheVariants.{Retired}
use Rattle.vx_record.specs.Records.{Record}
use Rattle.vx_examples.specs.Parts.{options, block, plan_with, event_from}
use Rattle.vx_examples.specs.Phrases.{recorded, begins, turn, taken_in, told_the_end, passed_on, written, noticed}

-- what the lines are made of
abbrev pub q_lines : DemoSettings
q_lines = record { lines = codes "q" ∷ []; sequence = false; count = 2; seed = 0 }

abbrev pub demo : Component
demo = record { name = codes "in"; class = Source; inputs = []; settings = DemoLogs q_lines 1 }

abbrev pub blackhole : Component
blackhole = record { name = codes "out"; class = Sink; inputs = codes "in" ∷ []; settings = Blackhole 0 (options false (block ∷ []) 1 0 30) }

abbrev pub plan : Plan
plan = plan_with (demo ∷ blackhole ∷ [])

-- the event of each line
abbrev pub event_q : Event
event_q = event_from (codes "demo_logs") (codes "q")

abbrev pub run : Record
run =
    recorded (begins plan ∷ turn 0 0 (taken_in 0 0 (113 ∷ 10 ∷ []) 0 (event_q ∷ []) 2) ∷ passed_on 0 1 0 event_q 1
    ∷ turn 1 0 (written 1 1 [] ++ noticed 0) ∷ turn 0 1000 (taken_in 0 0 (113 ∷ 10 ∷ []) 2 (event_q ∷ []) 4)
    ∷ passed_on 0 1 2 event_q 3 ∷ turn 1 1000 (written 1 3 [] ++ noticed 2) ∷ turn 0 2000 (told_the_end 0)
    ∷ (Retired 0 ∷ Retired 1 ∷ []) ∷ [])
