use Rattle.vx_reduce.proofs.Answered.{has_answered}
use Rattle.vx_reduce.proofs.reduce.Reduce.carry_out.Goals as goal

pub answer-requires : goal.answer-requires
answer-requires c = c.requires.by_found

pub returns-in-Ok-clause-answered : goal.returns-in-Ok-clause-answered
returns-in-Ok-clause-answered c =
    has_answered c.args.self.now _ c.args.parcel c.args.now c.args.shelf.now c.answer.new.shelf c.args.plan.found c.args.plan.starts c.args.plan.ends c.args.plan.key c.args.plan.event c.requires
    (λ j. record c.args.self.now { groups = c.in-Ok.ensures.groups j; since = c.since_then-since.ensures j }) c.in-Ok.ensures.outputs
