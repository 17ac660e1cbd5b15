-- Samples and dedupes as transforms of a chain.
use Rattle.std.specs.Prelude.{false, [], ◌∷◌, codes}
use Rattle.vx_condition.specs.declared.dedupe_fields.DedupeFields.TheVariants.{Match}
use Rattle.vx_condition.specs.Picking.{sample_passes, dedupe_passes}
use Rattle.vx_plain_case.specs.Plain.{IsPicker}
use Rattle.vx_examples.specs.Chained.{plan}

-- the second component passes each second event, from the first on
abbrev pub SamplePicks : Type 0
SamplePicks = IsPicker plan (record { number = 1; passes = sample_passes 2 (λ e. false) })

-- the third passes an event whose message isn't one of the two different ones that came last
abbrev pub DedupePicks : Type 0
DedupePicks = IsPicker plan (record { number = 2; passes = dedupe_passes 2 (Match ((codes "message" ∷ []) ∷ [])) })
