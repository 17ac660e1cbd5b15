use Rattle.std.proofs.Common.{ap, Some}
use Rattle.std.proofs.lemmas.Option.{slice_get-get_or}
use Rattle.vx_places.proofs.Written.{one_some, none_out}
use Rattle.vx_places.proofs.Looking.{none_waits_for, none_waits_for_all}
use Rattle.vx_places.proofs.looks.is_sent.Goals as goal

pub returns-then-is_empty : goal.returns-then-is_empty
returns-then-is_empty c = (
  λ is. (
    rw (slice_get-get_or c.args.rows.now c.args.i c.index-rows-i.result c.requires) (ap Some ((none_out c.is_empty.result _ c.is_empty.ensures).0 c.if-is_empty.true)),
    λ t. none_waits_for c.args.rows.now c.args.i t (c.none_waits.ensures.0 is),
  ),
  λ sent. c.none_waits.ensures.1 (none_waits_for_all c.args.rows.now c.args.i c.requires sent.1),
)

pub returns-else-is_empty : goal.returns-else-is_empty
returns-else-is_empty c = (
  λ is. absurd (cc (is, c.if-is_empty.false)),
  λ sent. (none_out c.is_empty.result _ c.is_empty.ensures).1 (one_some _ _ (rw (slice_get-get_or c.args.rows.now c.args.i c.index-rows-i.result c.requires) at sent.0)),
)
