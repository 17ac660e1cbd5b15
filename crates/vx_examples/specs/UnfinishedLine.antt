-- A run of the first configuration on `a` without a line feed.
use Rattle.std.specs.Prelude.{false, [], ◌∷◌, ◌++◌}
use Rattle.vx_plan.specs.First.{first_plan}
use Rattle.vx_record.specs.declared.taken.Taken.TheVariants.{Bytes}
use Rattle.vx_record.specs.declared.entry.Entry.TheVariants.{Read, Born}
use Rattle.vx_record.specs.Records.{Record}
use Rattle.vx_examples.specs.Parts.{event_with}
use Rattle.vx_examples.specs.Phrases.{recorded, begins, turn, told_the_end, confirmed, passed_on, written, noticed, ended}

abbrev pub run : Record
run =
    recorded (begins first_plan ∷ turn 0 0 (Read 0 0 (Bytes (97 ∷ [])) ∷ [])
    ∷ turn 0 0 (told_the_end 0 ++ (Born 0 0 0 (0 ∷ []) (event_with 97 ∷ []) false 0 1 ∷ []))
    ∷ passed_on 0 1 0 (event_with 97) 1 ∷ turn 1 0 (written 1 1 (97 ∷ 10 ∷ []) ++ noticed 0)
    ∷ ended 1 0 ∷ turn 0 0 (confirmed 0 0 1) ∷ ended 0 0 ∷ [])
