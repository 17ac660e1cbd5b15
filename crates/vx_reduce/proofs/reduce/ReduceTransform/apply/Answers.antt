use Rattle.vx_reduce.proofs.Calls.{came_on, came_out_on, came_meant, came_moves}
use Rattle.vx_reduce.proofs.reduce.ReduceTransform.apply.Goals as goal

pub returns-in-Ok-clause-goes_on : goal.returns-in-Ok-clause-goes_on
returns-in-Ok-clause-goes_on c =
    came_on c.carry_out.result c.args.self.now c.plan.new.self c.carry_out.new.self c.args.parcel c.args.now c.args.shelf.now c.carry_out.new.shelf c.plan.ensures.same c.carry_out.ensures.answered

pub returns-in-Ok-clause-puts_out : goal.returns-in-Ok-clause-puts_out
returns-in-Ok-clause-puts_out c =
    came_out_on c.carry_out.result c.args.self.now c.plan.new.self c.carry_out.new.self c.args.parcel c.args.now c.args.shelf.now c.carry_out.new.shelf c.plan.ensures.same c.carry_out.ensures.answered

pub returns-in-Ok-clause-meant : goal.returns-in-Ok-clause-meant
returns-in-Ok-clause-meant c =
    came_meant c.carry_out.result c.args.self.now c.plan.new.self c.carry_out.new.self c.args.parcel c.args.now c.args.shelf.now c.carry_out.new.shelf c.plan.ensures.same c.carry_out.ensures.answered

pub returns-in-Ok-clause-moves : goal.returns-in-Ok-clause-moves
returns-in-Ok-clause-moves c =
    came_moves c.carry_out.result c.args.self.now c.plan.new.self c.carry_out.new.self c.args.parcel c.args.now c.args.shelf.now c.carry_out.new.shelf c.plan.ensures.same c.carry_out.ensures.answered
