use Rattle.std.proofs.Common.{◌∙◌, ap, sym}
use Rattle.std.specs.Ordering.{is_lt}
use Rattle.vx_value.proofs.Order.{answer_less}
use Rattle.vx_run.proofs.hosting.text_lt.Goals as goal

pub returns-in-Less : goal.returns-in-Less
returns-in-Less c = ap is_lt (sym c.in-Less.is) ∙ answer_less c.args.a.now c.args.b.now c.cmp.result c.cmp.ensures

pub returns-in-Equal : goal.returns-in-Equal
returns-in-Equal c = ap is_lt (sym c.in-Equal.is) ∙ answer_less c.args.a.now c.args.b.now c.cmp.result c.cmp.ensures

pub returns-in-Greater : goal.returns-in-Greater
returns-in-Greater c = ap is_lt (sym c.in-Greater.is) ∙ answer_less c.args.a.now c.args.b.now c.cmp.result c.cmp.ensures
