use Rattle.std.proofs.lemmas.Option.{slice_get-get_or}
use Rattle.vx_places.proofs.looks.is_unfilled.Goals as goal

pub returns-then-is_empty_buffer : goal.returns-then-is_empty_buffer
returns-then-is_empty_buffer c = (
  λ is. (c.is_empty_buffer.ensures.0 c.if-is_empty_buffer.true, rw (slice_get-get_or c.args.rows.now c.args.i c.index-rows-i.result c.requires) (c.is_none_held.ensures.0 is)),
  λ none. c.is_none_held.ensures.1 (rw (slice_get-get_or c.args.rows.now c.args.i c.index-rows-i.result c.requires) at none.1),
)

pub returns-else-is_empty_buffer : goal.returns-else-is_empty_buffer
returns-else-is_empty_buffer c = (λ is. absurd (cc (is, c.if-is_empty_buffer.false)), λ none. c.is_empty_buffer.ensures.1 none.0)
