use Rattle.vx_counts.proofs.Steps.{born_kept}
use Rattle.vx_counts.proofs.counts.Counts.created_batch.Goals as goal

pub returns : goal.returns
returns c = λ h i b place stream end copies made waits legal events meets.
    born_kept h i b place stream end copies made waits c.args.self.now.tally c.args.events c.saturating_add-tally.result c.saturating_add-tally-2.result legal events
    c.saturating_add-tally.ensures c.saturating_add-tally-2.ensures meets
