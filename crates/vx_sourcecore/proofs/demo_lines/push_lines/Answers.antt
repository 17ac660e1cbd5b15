use Rattle.std.proofs.lemmas.Result.{err_from_is_err_and}
use Rattle.vx_sourcecore.proofs.Stepping.{keeps-behind}
use Rattle.vx_sourcecore.proofs.demo_lines.push_lines.Goals as goal

pub returns-in_err-push_line-clause-err : goal.returns-in_err-push_line-clause-err
returns-in_err-push_line-clause-err c =
    rw (err_from_is_err_and c.from_residual.result c.from_residual.ensures.1).1 (keeps-behind _ _ _ _ c.loop-i.invariant.lines c.in_err-push_line.ensures.err)
