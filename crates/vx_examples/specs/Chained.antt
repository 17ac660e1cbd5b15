-- Three transforms in a row: each second line, no repeats, and one that is handed in.
use Rattle.std.specs.Prelude.{None, [], ◌∷◌, ◌++◌, codes}
use Rattle.vx_status.specs.declared.outcome.Outcome.TheVariants.{Filtered}
use Rattle.vx_condition.specs.declared.dedupe_fields.DedupeFields.TheVariants.{Match}
use Rattle.vx_plan.specs.declared.settings.Settings.TheVariants.{Sample, Dedupe, Host}
use Rattle.vx_plan.specs.declared.plan.Plan.{Plan}
use Rattle.vx_plan.specs.declared.component.Component.{Component}
use Rattle.vx_record.specs.declared.entry.Entry.TheVariants.{Tick, Answer, Spent, Retired}
use Rattle.vx_record.specs.Records.{Record}
use Rattle.vx_examples.specs.Parts.{source, transform, sink, block, plan_with, event_with, output}
use Rattle.vx_examples.specs.Phrases.{Phrase, recorded, begins, turn, taken_in, told_the_end, confirmed, passed_on, gathered, written, noticed, ended}

abbrev pub each_second : Component
each_second = transform (codes "s") (codes "in") (Sample 2 None)

abbrev pub no_repeats : Component
no_repeats = transform (codes "d") (codes "s") (Dedupe (Match ((codes "message" ∷ []) ∷ [])) 2)

abbrev pub handed_in : Component
handed_in = transform (codes "h") (codes "d") Host

abbrev pub plan : Plan
plan = plan_with (source (codes "in") ∷ each_second ∷ no_repeats ∷ handed_in ∷ sink (codes "out") (codes "h") block ∷ [])

-- each of them answers
abbrev pub seconds : Phrase
seconds = Answer 1 (output (3 ∷ []) (event_with 97) ∷ output (5 ∷ []) (event_with 97) ∷ []) (4 ∷ []) [] ∷ Spent 1 4 Filtered ∷ []

abbrev pub first_alone : Phrase
first_alone = Answer 2 (output (6 ∷ []) (event_with 97) ∷ []) (7 ∷ []) [] ∷ Spent 2 7 Filtered ∷ []

abbrev pub another_event : Phrase
another_event = Tick 3 0 ∷ Answer 3 (output (8 ∷ []) (event_with 107) ∷ []) [] [] ∷ []

abbrev pub run : Record
run =
    recorded (begins plan
    ∷ turn 0 0 (taken_in 0 0 (97 ∷ 10 ∷ 98 ∷ 10 ∷ 97 ∷ 10 ∷ []) 0 (event_with 97 ∷ event_with 98 ∷ event_with 97 ∷ []) 6)
    ∷ passed_on 0 1 0 (event_with 97) 3 ∷ passed_on 0 1 1 (event_with 98) 4 ∷ passed_on 0 1 2 (event_with 97) 5
    ∷ turn 1 0 (gathered 1 (3 ∷ 4 ∷ 5 ∷ []) ++ seconds) ∷ passed_on 1 2 3 (event_with 97) 6 ∷ passed_on 1 2 5 (event_with 97) 7
    ∷ turn 2 0 (gathered 2 (6 ∷ 7 ∷ []) ++ first_alone) ∷ passed_on 2 3 6 (event_with 97) 8
    ∷ turn 3 0 (gathered 3 (8 ∷ []) ++ another_event) ∷ passed_on 3 4 8 (event_with 107) 9
    ∷ turn 4 0 (written 4 9 (107 ∷ 10 ∷ []) ++ noticed 0) ∷ turn 0 0 (confirmed 0 0 6 ++ told_the_end 0)
    ∷ ended 0 0 ∷ (Retired 1 ∷ Retired 2 ∷ Retired 3 ∷ ended 4 0) ∷ [])
