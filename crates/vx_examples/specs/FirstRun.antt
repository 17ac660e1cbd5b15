-- The record of a run of the first configuration on the input `a`, line feed, `b`, line feed, as one worker makes it.
use Rattle.std.specs.Prelude.{[], ◌∷◌, ◌++◌}
use Rattle.vx_value.specs.declared.event.Event.{Event}
use Rattle.vx_plan.specs.declared.plan.Plan.{Plan}
use Rattle.vx_plan.specs.First.{first_plan}
use Rattle.vx_record.specs.Records.{Record}
use Rattle.vx_examples.specs.Parts.{event_with}
use Rattle.vx_examples.specs.Phrases.{recorded, begins, turn, taken_in, told_the_end, confirmed, passed_on, written, noticed, ended}

-- the plan of the first configuration: standard input, written to standard output as text
abbrev pub plan : Plan
plan = first_plan

abbrev pub event_a : Event
event_a = event_with 97

abbrev pub event_b : Event
event_b = event_with 98

abbrev pub first_run : Record
first_run =
    recorded (begins plan
    ∷ turn 0 0 (taken_in 0 0 (97 ∷ 10 ∷ 98 ∷ 10 ∷ []) 0 (event_a ∷ event_b ∷ []) 4)
    ∷ passed_on 0 1 0 event_a 2 ∷ passed_on 0 1 1 event_b 3
    ∷ turn 1 0 (written 1 2 (97 ∷ 10 ∷ [])) ∷ turn 1 0 (written 1 3 (98 ∷ 10 ∷ []) ++ noticed 0)
    ∷ turn 0 0 (confirmed 0 0 4 ++ told_the_end 0) ∷ ended 1 0 ∷ ended 0 0 ∷ [])
