use Rattle.vx_counts.proofs.Steps.{attempt_kept}
use Rattle.vx_counts.proofs.counts.Counts.attempted.Goals as goal

pub returns : goal.returns
returns c = λ h i copies gave reply legal bytes meets.
    attempt_kept h i copies gave reply c.args.self.now.tally c.args.bytes c.saturating_add-tally.result c.saturating_add-tally-2.result legal bytes
    c.saturating_add-tally.ensures c.saturating_add-tally-2.ensures meets
