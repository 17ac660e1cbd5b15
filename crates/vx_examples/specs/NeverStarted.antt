-- The source's port fails to start five times.
use Rattle.std.specs.Prelude.{true, [], ◌∷◌, codes}
use Rattle.vx_plan.specs.declared.plan.Plan.{Plan}
use Rattle.vx_record.specs.declared.entry.Entry.TheVariants.{Idle, SourceLost}
use Rattle.vx_record.specs.Records.{Record}
use Rattle.vx_examples.specs.Parts.{source, sink, block, plan_with}
use Rattle.vx_examples.specs.Phrases.{recorded, begins, turn, ended}

abbrev pub plan : Plan
plan = plan_with (source (codes "in") ∷ sink (codes "out") (codes "in") block ∷ [])

abbrev pub run : Record
run =
    recorded (begins plan ∷ turn 0 0 (Idle 0 true ∷ []) ∷ turn 0 1000 (Idle 0 true ∷ []) ∷ turn 0 2000 (Idle 0 true ∷ [])
    ∷ turn 0 3000 (Idle 0 true ∷ []) ∷ turn 0 4000 (SourceLost 0 0 true ∷ []) ∷ ended 0 4000 ∷ ended 1 4000 ∷ [])
