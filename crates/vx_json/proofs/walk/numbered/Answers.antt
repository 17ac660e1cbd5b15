use Rattle.std.proofs.Common.{◌≡◌, ◌+◌, ◌-◌, suc, length, take, drop, arith, sym, subst}
use Rattle.std.proofs.lemmas.List.{take_all, length-drop}
use Rattle.vx_value.specs.Values.{datum_of}
use Rattle.vx_json.specs.Machine.{AtValue, AtEnd}
use Rattle.vx_json.specs.ModeViews.{stack_view}
use Rattle.vx_json.specs.Walks.{LeadsLow, held_view}
use Rattle.vx_json.proofs.Walks.{number-low}
use Rattle.vx_json.proofs.walk.numbered.Goals as goal

pub returns-clause-leads : goal.returns-clause-leads
returns-clause-leads c low =
    let bytes = c.args.bytes.now in
    let n = c.in-Some.n in
    let more = c.in_ok-more.more in
    let d = datum_of c.in-Some.value in
    let m = held_view c.followed.new.held in
    let st = stack_view c.args.stack.now.items in
    let su = stack_view c.followed.new.stack.items in
    let q = rw c.in-Some.is at c.in_ok-value.ensures in
    let rest : take (length bytes - n) (drop n bytes) ≡ drop n bytes = take_all _ _ (omega (arith, length-drop n bytes)) in
    let one : suc (more - 1) ≡ more = omega (arith, c.if-more-eq0.false) in
    let led : LeadsLow (AtEnd d) st (take more (drop n bytes)) m su = rw rest at (c.in_ok-more.ensures.leads low) in
    let all = number-low bytes n (more - 1) d m st su q.within low q.number (subst (λ k. LeadsLow (AtEnd d) st (take k (drop n bytes)) m su) (sym one) led) in
    subst (λ k. LeadsLow AtValue st (take (n + k) bytes) m su) one all
