use Rattle.std.proofs.Common.{◌≡◌, ◌≢◌, ◌∙◌, ℕ}
use Rattle.vx_by_hand.proofs.Spared.{away_beside}
use Rattle.vx_by_hand.proofs.by_hand.three_out.Goals as goal

pub done-b-requires-clause-away : goal.done-b-requires-clause-away
done-b-requires-clause-away g c =
    let differ : 2 ≢ c.leased-b.result.worker = (λ same. let no : ◌≡◌ {A = ℕ} 2 1 = same ∙ c.leased-b.ensures.worker in cc) in
    away_beside g.P.Port.observed c.leased-b.new.hub c.leased-c.new.hub c.leased-b.ensures.hub c.leased-c.ensures.hub 2 c.leased-b.result differ c.leased-c.ensures.only c.leased-b.ensures.away

pub done-a-requires-clause-away : goal.done-a-requires-clause-away
done-a-requires-clause-away g c =
    let second : 1 ≢ c.leased-a.result.worker = (λ same. let no : ◌≡◌ {A = ℕ} 1 0 = same ∙ c.leased-a.ensures.worker in cc) in
    let third : 2 ≢ c.leased-a.result.worker = (λ same. let no : ◌≡◌ {A = ℕ} 2 0 = same ∙ c.leased-a.ensures.worker in cc) in
    let away =
    away_beside g.P.Port.observed c.leased-a.new.hub c.leased-b.new.hub c.leased-a.ensures.hub c.leased-b.ensures.hub 1 c.leased-a.result second c.leased-b.ensures.only c.leased-a.ensures.away in
    away_beside g.P.Port.observed c.leased-b.new.hub c.leased-c.new.hub c.leased-b.ensures.hub c.leased-c.ensures.hub 2 c.leased-a.result third c.leased-c.ensures.only away
