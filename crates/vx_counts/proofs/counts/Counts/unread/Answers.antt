use Rattle.vx_counts.proofs.Steps.{unread_kept}
use Rattle.vx_counts.proofs.counts.Counts.unread.Goals as goal

pub returns : goal.returns
returns c = λ h i j k legal giver begins meets.
    unread_kept h i j k c.args.self.now.tally c.saturating_add-self.result legal giver begins c.saturating_add-self.ensures meets
