use Rattle.std.proofs.Common.{◌∙◌, sym}
use Rattle.vx_hub.proofs.Endings.{may_close, closes_down}
use Rattle.vx_hub.proofs.ending.close_down.Goals as goal

pub close-requires-clause-may : goal.close-requires-clause-may
close-requires-clause-may g c = may_close c.requires.stands c.args.i c.get.ensures (sym c.has_device.ensures ∙ c.if-not-has_device.false) c.if-get.false c.requires.over

pub returns : goal.returns
returns g c = closes_down c.requires.unleased c.shut.ensures.stays c.shut.ensures.size c.close.ensures.steps c.close.ensures.leaves
