use Rattle.vx_places.proofs.Making.{are_vacant}
use Rattle.vx_places.proofs.places.Places.end.Goals as goal

pub end_rows-requires : goal.end_rows-requires
end_rows-requires c = rw c.self.view_is (are_vacant c.args.self c.requires)
