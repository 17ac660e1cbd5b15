use Rattle.std.proofs.Common.{◌∙◌, sym}
use Rattle.vx_ready.proofs.Done.{done_source, done_worker}
use Rattle.vx_ready.proofs.finishing.is_done.Goals as goal

pub returns-then-is_source : goal.returns-then-is_source
returns-then-is_source g c = c.is_source_done.ensures ∙ done_source c.args.engine.now.log c.args.i (sym c.is_source.ensures ∙ c.if-is_source.true)

pub returns-else-is_source : goal.returns-else-is_source
returns-else-is_source g c = c.is_worker_done.ensures ∙ done_worker c.args.engine.now.log c.args.i (sym c.is_source.ensures ∙ c.if-is_source.false)
