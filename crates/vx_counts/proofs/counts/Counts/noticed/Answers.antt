use Rattle.vx_counts.proofs.Steps.{notice_delivered, notice_errored, notice_rejected}
use Rattle.vx_counts.proofs.counts.Counts.noticed.Goals as goal

pub returns-in-Delivered : goal.returns-in-Delivered
returns-in-Delivered c = λ h i b legal own meets.
    notice_delivered h i b c.args.status c.args.self.now.tally c.saturating_add-tally.result c.in-Delivered.is legal own c.saturating_add-tally.ensures meets

pub returns-in-Errored : goal.returns-in-Errored
returns-in-Errored c = λ h i b legal own meets.
    notice_errored h i b c.args.status c.args.self.now.tally c.saturating_add-tally-in-Errored.result c.in-Errored.is legal own c.saturating_add-tally-in-Errored.ensures
    meets

pub returns-in-Rejected : goal.returns-in-Rejected
returns-in-Rejected c = λ h i b legal own meets.
    notice_rejected h i b c.args.status c.args.self.now.tally c.saturating_add-tally-in-Rejected.result c.in-Rejected.is legal own
    c.saturating_add-tally-in-Rejected.ensures meets
