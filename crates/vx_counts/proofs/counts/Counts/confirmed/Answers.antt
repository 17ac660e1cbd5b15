use Rattle.vx_counts.proofs.Steps.{confirm_kept}
use Rattle.vx_counts.proofs.counts.Counts.confirmed.Goals as goal

pub returns : goal.returns
returns c = λ h i legal meets.
    confirm_kept h i c.args.positions.now c.args.self.now.tally c.total-ends.result legal c.total-ends.ensures meets
