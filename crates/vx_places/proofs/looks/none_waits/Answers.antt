use Rattle.std.proofs.Common.{get_or}
use Rattle.std.proofs.lemmas.Option.{slice_get-get_or}
use Rattle.vx_places.proofs.Looking.{no_children}
use Rattle.vx_places.proofs.looks.none_waits.Goals as goal

pub returns : goal.returns
returns c =
    let waiting = (get_or c.args.rows.now c.args.i c.index-rows-i.result).waiting in
    rw (slice_get-get_or c.args.rows.now c.args.i c.index-rows-i.result c.requires) (no_children waiting.items c.is_empty.result _ waiting.ok.0 c.is_empty.ensures)
