-- A run of the first configuration whose input fails behind `a` and a line feed.
use Rattle.std.specs.Prelude.{false, [], ◌∷◌, ◌++◌}
use Rattle.vx_plan.specs.First.{first_plan}
use Rattle.vx_record.specs.declared.entry.Entry.TheVariants.{SourceLost}
use Rattle.vx_record.specs.Records.{Record}
use Rattle.vx_examples.specs.Parts.{event_with}
use Rattle.vx_examples.specs.Phrases.{recorded, begins, turn, taken_in, confirmed, passed_on, written, noticed, ended}

abbrev pub run : Record
run =
    recorded (begins first_plan ∷ turn 0 0 (taken_in 0 0 (97 ∷ 10 ∷ []) 0 (event_with 97 ∷ []) 2)
    ∷ passed_on 0 1 0 (event_with 97) 1 ∷ turn 1 0 (written 1 1 (97 ∷ 10 ∷ []) ++ noticed 0)
    ∷ turn 0 0 (confirmed 0 0 2 ++ (SourceLost 0 2 false ∷ [])) ∷ ended 1 0 ∷ ended 0 0 ∷ [])
