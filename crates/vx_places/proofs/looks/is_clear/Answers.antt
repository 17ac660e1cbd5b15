use Rattle.vx_places.proofs.Looking.{clear_is, clear_sent, clear_buffer}
use Rattle.vx_places.proofs.looks.is_clear.Goals as goal

pub returns-then-is_sent : goal.returns-then-is_sent
returns-then-is_sent c = (
  λ is. clear_is c.args.rows.now c.args.i (c.is_sent.ensures.0 c.if-is_sent.true) (c.is_empty_buffer.ensures.0 is),
  λ clear. c.is_empty_buffer.ensures.1 (clear_buffer c.args.rows.now c.args.i clear),
)

pub returns-else-is_sent : goal.returns-else-is_sent
returns-else-is_sent c = (
  λ is. absurd (cc (is, c.if-is_sent.false)),
  λ clear. c.is_sent.ensures.1 (clear_sent c.args.rows.now c.args.i clear),
)
