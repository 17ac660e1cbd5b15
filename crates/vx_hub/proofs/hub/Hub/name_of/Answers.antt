use Rattle.vx_hub.proofs.Endings.{name_is}
use Rattle.vx_hub.proofs.hub.Hub.name_of.Goals as goal

pub returns : goal.returns
returns g c = name_is c.requires.hub.stands c.args.instance c.get.ensures
