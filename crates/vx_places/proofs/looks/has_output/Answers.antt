use Rattle.std.proofs.lemmas.Option.{slice_get-get_or}
use Rattle.vx_places.proofs.Written.{not_empty, none_out}
use Rattle.vx_places.proofs.looks.has_output.Goals as goal

pub returns : goal.returns
returns c = rw (slice_get-get_or c.args.rows.now c.args.i c.index-rows-i.result c.requires) (not_empty c.is_empty.result _ (none_out c.is_empty.result _ c.is_empty.ensures))
