use Rattle.std.proofs.Common.{◌∙◌, sym, refl, true, false}
use Rattle.vx_record.specs.Routing.{is_ending}
use Rattle.vx_ready.proofs.Done.{worker_done_is}
use Rattle.vx_ready.proofs.finishing.is_worker_done.Goals as goal

pub returns-then-is_vacant : goal.returns-then-is_vacant
returns-then-is_vacant g c = worker_done_is c.args.engine.now.log c.args.i true c.is_ending.result (sym c.if-is_vacant.true ∙ c.is_vacant.ensures) c.is_ending.ensures

pub returns-else-is_vacant : goal.returns-else-is_vacant
returns-else-is_vacant g c = c.if-is_vacant.false ∙ worker_done_is c.args.engine.now.log c.args.i false (is_ending c.args.engine.now.log c.args.i) (sym c.if-is_vacant.false ∙ c.is_vacant.ensures) refl
