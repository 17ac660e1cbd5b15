use Rattle.std.proofs.Common.{◌∙◌, sym}
use Rattle.vx_ready.proofs.Working.{flushed_ending, unflushed_bare, unflushed_filled}
use Rattle.vx_ready.proofs.merging.must_flush.Goals as goal

pub returns-then-keeps_none : goal.returns-then-keeps_none
returns-then-keeps_none g c = unflushed_bare c.args.engine.now.log c.args.i c.requires.stands.legal (sym c.keeps_none.ensures ∙ c.if-keeps_none.true)

pub returns-then-not-is_unbuffered : goal.returns-then-not-is_unbuffered
returns-then-not-is_unbuffered g c = unflushed_filled c.args.engine.now.log c.args.i (sym c.is_unbuffered.ensures ∙ c.if-not-is_unbuffered.true)

pub returns : goal.returns
returns g c =
    flushed_ending c.args.engine.now.log c.args.i c.is_ending.result c.requires.stands.legal (sym c.keeps_none.ensures ∙ c.if-keeps_none.false)
    (sym c.is_unbuffered.ensures ∙ c.if-not-is_unbuffered.false) c.is_ending.ensures
