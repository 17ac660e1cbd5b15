-- A sink whose attempt failed, and that tries again once its wait is over.
use Rattle.std.specs.Prelude.{[], ◌∷◌, ◌++◌}
use Rattle.vx_ends.specs.declared.trouble.Reply.TheVariants.{Failed}
use Rattle.vx_record.specs.declared.entry.Entry.TheVariants.{Home, Attempt, Retired}
use Rattle.vx_record.specs.Records.{Record}
use Rattle.vx_examples.specs.Phrases.{recorded, so_far, turn, ended}
use Rattle.vx_examples.specs.Joined as joined

abbrev pub run : Record
run =
    recorded ((Attempt 2 (6 ∷ 7 ∷ 8 ∷ []) (97 ∷ []) Failed ∷ Home 2 ∷ turn 2 2000 joined.all_delivered)
    ∷ (Retired 1 ∷ ended 0 2000) ∷ ended 2 2000 ∷ [])
    ++ so_far 36 joined.run
