-- The counts of several instances.
use Rattle.std.specs.Prelude.{ℕ, List, map}
use Rattle.vx_record.specs.declared.tally.Tally.{Tally}
use Rattle.vx_record.specs.Records.{Record}
use Rattle.vx_record.specs.Copies.{counting}
use Rattle.vx_record.specs.Tallies.{tally}

-- the counts of the first so many instances, in order
abbrev pub tallies_of : Record → ℕ → List Tally
tallies_of h count = map (tally h) (counting 0 count)
