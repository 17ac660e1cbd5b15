use Rattle.vx_places.proofs.Making.{made_empty}
use Rattle.vx_places.proofs.row.make_row.Goals as goal

pub end_stages-requires : goal.end_stages-requires
end_stages-requires c = rw c.in_ok-stages.ensures (made_empty c.args.capacities.now)
