use Rattle.vx_counts.proofs.Steps.{take_kept}
use Rattle.vx_counts.proofs.counts.Counts.took.Goals as goal

pub returns : goal.returns
returns c = λ h i s copies legal meets.
    take_kept h i s copies c.args.self.now.tally c.saturating_add-self.result legal c.saturating_add-self.ensures meets
