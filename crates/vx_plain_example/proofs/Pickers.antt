-- Samples and dedupes as transforms of a chain.
use Rattle.std.proofs.Common.{[], refl}
use Rattle.vx_examples.specs.Chained.{each_second, no_repeats}
use Rattle.vx_plain_example.specs.Pickers.{SamplePicks, DedupePicks}

-- the sample has the rule
pub sample_picks : SamplePicks
sample_picks = record { component = each_second; there = refl; transform = refl; tests = []; mean = tt; ruled = refl }

-- and so has the dedupe
pub dedupe_picks : DedupePicks
dedupe_picks = record { component = no_repeats; there = refl; transform = refl; tests = []; mean = tt; ruled = refl }
