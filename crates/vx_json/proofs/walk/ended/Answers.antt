use Rattle.std.proofs.Common.{◌≡◌, ℕ, ◌≤◌, [], ◌∷◌, length, arith, ◌∙◌, ap, subst}
use Rattle.std.proofs.lemmas.Result.{IfOk-weaker}
use Rattle.vx_value.specs.Values.{datum_of}
use Rattle.vx_json.specs.Machine.{AtEnd}
use Rattle.vx_json.specs.ModeViews.{frame_view, stack_view}
use Rattle.vx_json.specs.Walks.{LeadsLow, EndsInnermost, closed_datum}
use Rattle.vx_json.proofs.Stacks.{stack_view-push, stack_view-empty}
use Rattle.vx_json.proofs.Walks.{end-over}
use Rattle.vx_json.proofs.walk.ended.Goals as goal

pub returns-in-Some : goal.returns-in-Some
returns-in-Some c =
    let st = stack_view c.args.stack.now.items in
    let su = stack_view c.pop.new.self.items in
    let d = datum_of c.args.value in
    let f = frame_view c.in-Some.frame in
    let top : st ≡ f ∷ su = ap stack_view c.in-Some.ensures.items ∙ stack_view-push c.pop.new.self.items c.in-Some.frame in
    IfOk-weaker c.closed.result (λ whole. datum_of whole ≡ closed_datum f d) (λ whole. (b : ℕ) → EndsInnermost st b → length st ≤ 32 → LeadsLow (AtEnd d) st (b ∷ []) (AtEnd (datum_of whole)) su)
    (λ whole e. end-over st su f d (datum_of whole) top e) c.closed.ensures

pub returns-in-None : goal.returns-in-None
returns-in-None c b h l =
    let none : length c.args.stack.now.items ≡ 0 = omega (arith, c.in-None.ensures.cases.0, c.args.stack.now.ok.0) in
    absurd (subst (λ st. EndsInnermost st b) (stack_view-empty c.args.stack.now.items none) h)
