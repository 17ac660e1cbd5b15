use Rattle.vx_counts.proofs.Steps.{newest_kept}
use Rattle.vx_counts.proofs.counts.Counts.dropped_newest.Goals as goal

pub returns : goal.returns
returns c = λ h i j k legal class begins meets.
    newest_kept h i j k c.args.self.now.tally c.saturating_add-self.result legal class begins c.saturating_add-self.ensures meets
