use Rattle.std.proofs.Common.{ap, length, subst, sym}
use Rattle.vx_moves.specs.Returns.{HaveReturned}
use Rattle.vx_run.proofs.Reading.{read_none}
use Rattle.vx_run.proofs.Closing.{ended_none}
use Rattle.vx_run.proofs.running.unbegun.Goals as goal

pub returns-clause-returned : goal.returns-clause-returned
returns-clause-returned g c = λ other. subst HaveReturned (sym c.new.ensures) tt

pub returns-clause-ended : goal.returns-clause-ended
returns-clause-ended g c = ended_none (length c.new-3.result) c.new.result (ap length c.new-3.ensures) c.new.ensures

pub returns-clause-read : goal.returns-clause-read
returns-clause-read g c = read_none c.new.result c.args.fault c.new.ensures
