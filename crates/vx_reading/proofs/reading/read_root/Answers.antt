use Rattle.toml.specs.View.{view}
use Rattle.vx_reading.proofs.Accepted.{read_accepted}
use Rattle.vx_reading.proofs.Apart.{read_apart}
use Rattle.vx_reading.proofs.Judged.{memory_judged}
use Rattle.vx_reading.proofs.reading.read_root.Goals as goal

pub returns-clause-apart : goal.returns-clause-apart
returns-clause-apart c = let judged = c.read_parts.ensures.judged in read_apart judged.0 (view c.args.root.now) c.read_parts.result c.in_ok-all.ensures.apart judged.1.judged

pub returns-clause-accepted : goal.returns-clause-accepted
returns-clause-accepted c = let judged = c.read_parts.ensures.judged in read_accepted judged.0 (view c.args.root.now) c.read_parts.result c.in_ok-all.ensures.apart judged.1.judged

pub returns-in_err-all-clause-judged : goal.returns-in_err-all-clause-judged
returns-in_err-all-clause-judged c = memory_judged (view c.args.root.now) c.from_residual.result c.from_residual.ensures.1
