use Rattle.vx_moves.proofs.Merging.{checks_of}
use Rattle.vx_moves.proofs.keeping.due_at_rest.Goals as goal

pub returns-then-is_at_rest-clause-due : goal.returns-then-is_at_rest-clause-due
returns-then-is_at_rest-clause-due g c = checks_of c.args.keeper.now c.due.result (c.is_at_rest.ensures.rests c.if-is_at_rest.true) c.due.ensures.keeps

pub returns-then-is_at_rest-clause-only : goal.returns-then-is_at_rest-clause-only
returns-then-is_at_rest-clause-only g c fit h i keeps none = c.due.ensures.keeps fit h i keeps

pub returns-else-is_at_rest-clause-only : goal.returns-else-is_at_rest-clause-only
returns-else-is_at_rest-clause-only g c fit h i keeps none = absurd (c.is_at_rest.ensures.only c.if-is_at_rest.false fit h i keeps none)
