use Rattle.std.proofs.Common.{ap, sym, not, Some}
use Rattle.std.proofs.lemmas.Option.{slice_get-get_or}
use Rattle.vx_places.proofs.Written.{one_some, not_full}
use Rattle.vx_places.proofs.looks.is_held_full.Goals as goal

pub returns-clause-full : goal.returns-clause-full
returns-clause-full c =
    let full = c.is_full.ensures.full in
    rw (slice_get-get_or c.args.rows.now c.args.i c.index-rows-i.result c.requires.within, c.in-Some.is) (λ is. ap Some (sym (full.0 is)), λ is. full.1 (sym (one_some _ _ is)))

pub returns-clause-room : goal.returns-clause-room
returns-clause-room c is =
    let free = not_full c.is_full.result _ _ c.is_full.ensures.full c.is_full.ensures.within in
    rw (slice_get-get_or c.args.rows.now c.args.i c.index-rows-i.result c.requires.within, c.in-Some.is) (free.0 (ap not is))
