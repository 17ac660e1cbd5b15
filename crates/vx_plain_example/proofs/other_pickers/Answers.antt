use Rattle.vx_plain_example.proofs.Pickers.{sample_picks, dedupe_picks}
use Rattle.vx_plain_example.proofs.other_pickers.Goals as goal

pub returns-clause-sample : goal.returns-clause-sample
returns-clause-sample c = sample_picks

pub returns-clause-dedupe : goal.returns-clause-dedupe
returns-clause-dedupe c = dedupe_picks
