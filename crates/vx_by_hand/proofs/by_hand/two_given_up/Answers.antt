use Rattle.std.proofs.Common.{◌≡◌, ◌≢◌, ◌∙◌, ℕ, sym}
use Rattle.vx_by_hand.proofs.Spared.{away_beside, away_kept, back_alone}
use Rattle.vx_by_hand.proofs.by_hand.two_given_up.Goals as goal

pub done-b-requires-clause-away : goal.done-b-requires-clause-away
done-b-requires-clause-away g c =
    let away = c.leased-b.ensures.away in
    away_kept g.P.Port.observed c.leased-b.new.hub c.give_up.new.hub c.leased-b.ensures.hub c.give_up.ensures.hub c.leased-b.result
    (c.give_up.ensures.spares c.leased-b.result.instance c.leased-b.result.worker away.left.out) away

pub done-a-requires-clause-away : goal.done-a-requires-clause-away
done-a-requires-clause-away g c =
    let differ : 1 ≢ c.leased-a.result.worker = (λ same. let no : ◌≡◌ {A = ℕ} 1 0 = same ∙ c.leased-a.ensures.worker in cc) in
    let away =
    away_beside g.P.Port.observed c.leased-a.new.hub c.leased-b.new.hub c.leased-a.ensures.hub c.leased-b.ensures.hub 1 c.leased-a.result differ c.leased-b.ensures.only c.leased-a.ensures.away in
    away_kept g.P.Port.observed c.leased-b.new.hub c.give_up.new.hub c.leased-b.ensures.hub c.give_up.ensures.hub c.leased-a.result
    (c.give_up.ensures.spares c.leased-a.result.instance c.leased-a.result.worker away.left.out) away

pub land-requires-2-clause-back : goal.land-requires-2-clause-back
land-requires-2-clause-back g c =
    let differ : c.done-b.result.worker ≢ c.done-a.result.worker = (λ same. let no : ◌≡◌ {A = ℕ} 1 0 = sym c.leased-b.ensures.worker ∙ sym c.done-b.ensures.worker ∙ same ∙ c.done-a.ensures.worker ∙ c.leased-a.ensures.worker in cc) in
    back_alone g.P.Port.observed c.give_up.new.hub c.land.new.hub c.give_up.ensures.hub c.land.ensures.hub c.done-b.result c.done-a.result differ c.land.ensures.only c.done-b.ensures.back c.done-a.ensures.back
