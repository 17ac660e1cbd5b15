use Rattle.std.proofs.lemmas.Option.{slice_get-get_or}
use Rattle.vx_places.proofs.looks.awaits.Goals as goal

pub returns : goal.returns
returns c = rw (slice_get-get_or c.args.rows.now c.args.i c.index-rows-i.result c.requires) c.any_for.ensures
