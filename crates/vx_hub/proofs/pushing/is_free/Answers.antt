use Rattle.std.proofs.Common.{◌∙◌, ap}
use Rattle.std.specs.Prelude.{not}
use Rattle.vx_record.proofs.Ceasing.{unabandoned}
use Rattle.vx_landing.proofs.Answering.{none_known, over_known}
use Rattle.vx_hub.proofs.pushing.is_free.Goals as goal

pub returns-then-is_none-clause-going : goal.returns-then-is_none-clause-going
returns-then-is_none-clause-going g c some =
    unabandoned c.args.engine.now.log (none_known g.P.Port.observed c.args.engine.now c.requires.stands (c.is_none.ensures ∙ ap not c.if-is_none.true))

pub returns-else-is_none-clause-none : goal.returns-else-is_none-clause-none
returns-else-is_none-clause-none g c over going unleased = let given =
    over_known g.P.Port.observed c.args.engine.now c.requires.stands (c.is_none.ensures ∙ ap not over) in cc
