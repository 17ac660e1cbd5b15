use Rattle.std.proofs.Common.{◌∙◌, ap, refl}
use Rattle.std.specs.Prelude.{Ok}
use Rattle.vx_hub.proofs.Moving.{may_spend_unread, moved_by, split_reason, unread_moves}
use Rattle.vx_hub.proofs.pushing.part.Goals as goal

pub spend_unread-requires-clause-may : goal.spend_unread-requires-clause-may
spend_unread-requires-clause-may g c =
    let unread = c.split.ensures.unread (c.in-Ok-false.is ∙ ap Ok c.in-Ok-false.field-0-test) in
    may_spend_unread c.requires.stands c.args.i c.requires.within c.requires.going c.requires.none_waits unread (c.split.ensures.unchanged (λ so. cc))

pub returns-in-Ok-true-clause-moved : goal.returns-in-Ok-true-clause-moved
returns-in-Ok-true-clause-moved g c = moved_by (c.split.ensures.split (c.in-Ok-true.is ∙ ap Ok c.in-Ok-true.field-0-test)).steps c.split.ensures.leaves refl

pub returns-in-Ok-false : goal.returns-in-Ok-false
returns-in-Ok-false g c =
    let all = unread_moves c.requires.stands c.spend_unread.result c.requires.some
    (c.split.ensures.unchanged (λ so. cc)) c.split.ensures.stands c.split.ensures.leaves c.split.ensures.size
    c.spend_unread.ensures.spent c.spend_unread.ensures.none in
    record { moved = all.0; entered = all.1; grew = all.2; reason = tt }

pub returns-in-Err-clause-reason : goal.returns-in-Err-clause-reason
returns-in-Err-clause-reason g c =
    split_reason c.requires.stands c.args.i c.in-Err.short c.requires.within c.requires.unleased c.requires.none_waits
    c.in-Err.ensures.short (c.split.ensures.unchanged (λ so. cc))
