use Rattle.std.proofs.Common.{sym}
use Rattle.vx_by_hand.proofs.Spared.{back_beside}
use Rattle.vx_by_hand.proofs.by_hand.land_three.Goals as goal

pub land_and_push-requires-2-clause-back : goal.land_and_push-requires-2-clause-back
land_and_push-requires-2-clause-back g c =
    back_beside g.P.Port.observed c.args.hub.now c.land_and_push.new.hub c.requires.hub c.land_and_push.ensures.hub c.args.a.instance c.args.b
    (λ same. c.requires.back.first_second (sym same)) c.land_and_push.ensures.spares c.requires.back.second

pub land_and_push-requires-3-clause-back : goal.land_and_push-requires-3-clause-back
land_and_push-requires-3-clause-back g c =
    let mid = c.land_and_push.new.hub in
    let back =
    back_beside g.P.Port.observed c.args.hub.now mid c.requires.hub c.land_and_push.ensures.hub c.args.a.instance c.args.c
    (λ same. c.requires.back.first_third (sym same)) c.land_and_push.ensures.spares c.requires.back.third in
    back_beside g.P.Port.observed mid c.land_and_push-2.new.hub c.land_and_push.ensures.hub c.land_and_push-2.ensures.hub c.args.b.instance c.args.c
    (λ same. c.requires.back.second_third (sym same)) c.land_and_push-2.ensures.spares back
