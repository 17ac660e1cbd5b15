-- A run of the first configuration on no input.
use Rattle.std.specs.Prelude.{[], ◌∷◌}
use Rattle.vx_plan.specs.First.{first_plan}
use Rattle.vx_record.specs.Records.{Record}
use Rattle.vx_examples.specs.Phrases.{recorded, begins, turn, told_the_end, ended}

abbrev pub run : Record
run = recorded (begins first_plan ∷ turn 0 0 (told_the_end 0) ∷ ended 1 0 ∷ ended 0 0 ∷ [])
