use Rattle.vx_counts.proofs.Steps.{read_kept}
use Rattle.vx_counts.proofs.counts.Counts.read.Goals as goal

pub returns : goal.returns
returns c = λ h i stream took legal bytes new meets.
    read_kept h i stream took c.args.self.now.tally c.args.bytes c.saturating_add-tally.result c.saturating_add-tally-2.result c.saturating_add-tally-3.result
    c.saturating_add-tally-4.result c.args.new legal bytes new c.saturating_add-tally.ensures c.saturating_add-tally-2.ensures c.saturating_add-tally-3.ensures
    c.saturating_add-tally-4.ensures meets
