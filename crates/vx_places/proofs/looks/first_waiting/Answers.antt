use Rattle.std.proofs.lemmas.Option.{slice_get-get_or}
use Rattle.vx_places.proofs.Written.{if_none_then}
use Rattle.vx_places.proofs.Looking.{no_first}
use Rattle.vx_places.proofs.looks.first_waiting.Goals as goal

pub returns-clause-none : goal.returns-clause-none
returns-clause-none c = if_none_then c.oldest_in.result (λ none. rw (slice_get-get_or c.args.rows.now c.args.i c.index-rows-i.result c.requires) (no_first _ none)) c.oldest_in.ensures.none
