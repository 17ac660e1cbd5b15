use Rattle.vx_hub.proofs.Endings.{class_is}
use Rattle.vx_hub.proofs.hub.Hub.class_of.Goals as goal

pub returns : goal.returns
returns g c = class_is c.requires.hub.stands c.args.instance c.get.ensures
