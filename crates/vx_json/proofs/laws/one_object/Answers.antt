use Rattle.vx_json.proofs.Objects.{object-of-event, event-of-object}
use Rattle.vx_json.proofs.laws.one_object.Goals as goal

pub returns : goal.returns
returns c bytes fields = (event-of-object bytes fields, object-of-event bytes fields)
