use Rattle.vx_counts.proofs.Steps.{answer_kept}
use Rattle.vx_counts.proofs.counts.Counts.answered.Goals as goal

pub returns : goal.returns
returns c = λ h i outputs discarded keeps legal sent dropped meets.
    answer_kept h i outputs discarded keeps c.args.self.now.tally c.args.sent c.args.dropped c.saturating_add-tally.result c.saturating_add-tally-2.result legal sent dropped
    c.saturating_add-tally.ensures c.saturating_add-tally-2.ensures meets
