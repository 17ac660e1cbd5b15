use Rattle.std.proofs.Common.{◌∙◌, sym}
use Rattle.vx_record.specs.Lists.{held}
use Rattle.vx_ready.proofs.Done.{none_held, none_tests}
use Rattle.vx_ready.proofs.finishing.holds_none.Goals as goal

pub keeps_none-requires-clause-joins : goal.keeps_none-requires-clause-joins
keeps_none-requires-clause-joins g c = sym c.merges.ensures ∙ c.if-merges.true

pub returns-then-merges : goal.returns-then-merges
returns-then-merges g c = c.keeps_none.ensures ∙ none_held c.args.engine.now.log c.args.i c.requires.stands.legal

pub count_held-requires-clause-alone : goal.count_held-requires-clause-alone
count_held-requires-clause-alone g c = sym c.merges.ensures ∙ c.if-merges.false

pub returns-else-merges : goal.returns-else-merges
returns-else-merges g c = none_tests (held c.args.engine.now.log c.args.i) c.count_held.result c.count_held.ensures
