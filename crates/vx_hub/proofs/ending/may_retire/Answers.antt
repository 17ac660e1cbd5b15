use Rattle.std.proofs.Common.{◌∙◌, inl, sym}
use Rattle.vx_ready.proofs.Knowing.{state_there}
use Rattle.vx_hub.proofs.Endings.{closing_so, may_end, bare_may, bare_not, closing_unleased, unsettled_not, undone_not}
use Rattle.vx_hub.proofs.ending.may_retire.Goals as goal

pub returns-then-not-is_closing-clause-not : goal.returns-then-not-is_closing-clause-not
returns-then-not-is_closing-clause-not g c off well may = let there = state_there c.args.engine.now.states c.args.i c.requires.within in
    c.is_closing.ensures.no c.if-not-is_closing.true (closing_so c.requires.stands c.args.i there.1 may)

pub returns-then-is_some-clause-may : goal.returns-then-is_some-clause-may
returns-then-is_some-clause-may g c bare = let there = state_there c.args.engine.now.states c.args.i c.requires.within in
    bare_may c.requires.stands c.args.i there.1 (c.is_closing.ensures.yes c.if-not-is_closing.false) (sym c.is_some.ensures ∙ c.if-is_some.true) (sym c.is_bare.ensures ∙ bare)

pub returns-then-is_some-clause-not : goal.returns-then-is_some-clause-not
returns-then-is_some-clause-not g c off well = let there = state_there c.args.engine.now.states c.args.i c.requires.within in
    bare_not c.requires.stands c.args.i there.1 (sym c.is_bare.ensures ∙ off)

pub is_bare-requires-clause-unleased : goal.is_bare-requires-clause-unleased
is_bare-requires-clause-unleased g c = let there = state_there c.args.engine.now.states c.args.i c.requires.within in
    closing_unleased c.requires.stands c.args.i there.1 (c.is_closing.ensures.yes c.if-not-is_closing.false)

pub returns-then-not-is_settled-clause-not : goal.returns-then-not-is_settled-clause-not
returns-then-not-is_settled-clause-not g c off well may = let there = state_there c.args.engine.now.states c.args.i c.requires.within in
    unsettled_not c.requires.stands c.args.i there.1 (sym c.is_some.ensures ∙ c.if-is_some.false) (c.is_closing.ensures.yes c.if-not-is_closing.false)
    (c.is_settled.ensures.not c.if-not-is_settled.true) well

pub returns-clause-may : goal.returns-clause-may
returns-clause-may g c done = let there = state_there c.args.engine.now.states c.args.i c.requires.within in
    may_end c.requires.stands c.args.i there.1 (c.is_closing.ensures.yes c.if-not-is_closing.false) (inl (sym c.is_done.ensures ∙ done))

pub returns-clause-not : goal.returns-clause-not
returns-clause-not g c off well = let there = state_there c.args.engine.now.states c.args.i c.requires.within in
    undone_not c.requires.stands c.args.i there.1 (sym c.is_some.ensures ∙ c.if-is_some.false) (sym c.is_done.ensures ∙ off)
