use Rattle.std.proofs.Common.{sym, ◌∙◌}
use Rattle.vx_counts.proofs.Steps.{spent_dropped, spent_delivered, spent_errored, spent_rejected}
use Rattle.vx_counts.proofs.counts.Counts.spent.Goals as goal

pub returns-in-Dropped : goal.returns-in-Dropped
returns-in-Dropped c = λ h i j k older legal class first meets.
    spent_dropped h i j k c.args.outcome c.args.self.now.tally (sym c.status.ensures.status ∙ c.in-Dropped.is) older legal class first meets

pub returns-in-Delivered : goal.returns-in-Delivered
returns-in-Delivered c = λ h i j k older legal class first meets.
    spent_delivered h i j k c.args.outcome c.args.self.now.tally c.saturating_add-tally.result (sym c.status.ensures.status ∙ c.in-Delivered.is) older legal class first c.saturating_add-tally.ensures meets

pub returns-in-Errored : goal.returns-in-Errored
returns-in-Errored c = λ h i j k older legal class first meets.
    spent_errored h i j k c.args.outcome c.args.self.now.tally c.saturating_add-tally-in-Errored.result (sym c.status.ensures.status ∙ c.in-Errored.is) older legal class first c.saturating_add-tally-in-Errored.ensures meets

pub returns-in-Rejected : goal.returns-in-Rejected
returns-in-Rejected c = λ h i j k older legal class first meets.
    spent_rejected h i j k c.args.outcome c.args.self.now.tally c.saturating_add-tally-in-Rejected.result (sym c.status.ensures.status ∙ c.in-Rejected.is) older legal class first c.saturating_add-tally-in-Rejected.ensures meets
