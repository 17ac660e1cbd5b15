use Rattle.std.proofs.Common.{ap, Some}
use Rattle.std.proofs.lemmas.Option.{slice_get-get_or}
use Rattle.vx_places.proofs.Written.{one_some}
use Rattle.vx_places.proofs.looks.is_empty_buffer.Goals as goal

pub returns : goal.returns
returns c =
    let empty = rw c.deref.ensures.value at c.are_empty.ensures in
    rw (slice_get-get_or c.args.rows.now c.args.i c.index-rows-i.result c.requires) (λ is s. ap Some (empty.0 is s), λ none. empty.1 (λ s. one_some _ _ (none s)))
