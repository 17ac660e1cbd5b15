use Rattle.std.proofs.Common.{refl}
use Rattle.vx_record.specs.Places.Place.{Outputs, Waiting, Contents, Held}
use Rattle.vx_places.proofs.Looking.{bare_is}
use Rattle.vx_places.proofs.looks.is_bare.Goals as goal

pub returns-then-is_sent : goal.returns-then-is_sent
returns-then-is_sent c = (
  λ is. let rest = c.is_unfilled.ensures.0 is in bare_is c.args.rows.now c.args.i (c.is_sent.ensures.0 c.if-is_sent.true) rest.0 rest.1,
  λ bare. c.is_unfilled.ensures.1 (λ s. bare (Contents c.args.i s) refl, bare (Held c.args.i) refl),
)

pub returns-else-is_sent : goal.returns-else-is_sent
returns-else-is_sent c = (
  λ is. absurd (cc (is, c.if-is_sent.false)),
  λ bare. c.is_sent.ensures.1 (bare (Outputs c.args.i) refl, λ t. bare (Waiting c.args.i t) refl),
)
