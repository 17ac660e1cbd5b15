use Rattle.std.proofs.Common.{sym, ◌∙◌}
use Rattle.vx_condition.proofs.Faulted.{halted, has_size, has_tree, end_fault}
use Rattle.vx_condition.proofs.parsing.read.Goals as goal

pub returns-in-Err-clause-fault : goal.returns-in-Err-clause-fault
returns-in-Err-clause-fault c = halted c.args.keeps c.args.text.now c.in-Err.fault c.in-Err.ensures.fault

pub finish-requires : goal.finish-requires
finish-requires c = has_size c.args.keeps c.in-Ok.reader c.args.text.now c.in-Ok.ensures.ok

pub returns-in-Ok-Some-clause-ok : goal.returns-in-Ok-Some-clause-ok
returns-in-Ok-Some-clause-ok c = has_tree c.args.keeps c.args.text.now c.in-Ok.reader c.in-Ok-Some.tree c.in-Ok.ensures.ok (sym c.in-Ok-Some.ensures.ok ∙ c.in-Ok-Some.field-0-is)

pub returns-in-Ok-None-clause-fault : goal.returns-in-Ok-None-clause-fault
returns-in-Ok-None-clause-fault c = end_fault c.args.keeps c.args.text.now c.in-Ok.reader c.in-Ok.ensures.ok (sym c.in-Ok-None.ensures.ok ∙ c.in-Ok-None.field-0-is)
