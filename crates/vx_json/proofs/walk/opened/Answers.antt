use Rattle.std.proofs.Common.{◌≡◌, ◌+◌, ◌-◌, ◌<◌, [], ◌∷◌, length, take, drop, arith, sym, ◌∙◌, ap, subst}
use Rattle.std.proofs.lemmas.List.{take_all, length-drop}
use Rattle.vx_json.specs.Machine.{AtValue, InFields}
use Rattle.vx_json.specs.ModeViews.{stack_view}
use Rattle.vx_json.specs.Walks.{LeadsLow, IsNamed}
use Rattle.vx_json.specs.declared.frame.Frame.TheVariants as frame
use Rattle.vx_json.proofs.Stacks.{stack_view-push, length-stack_view}
use Rattle.vx_json.proofs.Walks.{opened-low}
use Rattle.vx_json.proofs.walk.opened.Goals as goal

pub returns-in_ok-push-in-Some-clause-leads : goal.returns-in_ok-push-in-Some-clause-leads
returns-in_ok-push-in-Some-clause-leads c =
    let bytes = c.args.bytes.now in
    let xs = c.args.stack.now.items in
    let n = c.in-Some.n in
    let name = c.in-Some.name in
    let some : 0 < length bytes = grind (arith, c.is_empty.ensures) in
    let low : length (stack_view xs) < 32 = omega (arith, length-stack_view xs, c.len.ensures, c.if-len-ge-DEEPEST.false) in
    let q = rw c.in-Some.is at c.in_ok-name.ensures in
    let rest : take (length bytes - 1) (drop 1 bytes) ≡ drop 1 bytes = take_all _ _ (omega (arith, length-drop 1 bytes)) in
    let named : IsNamed (take n (drop 1 bytes)) name = rw rest at q.named in
    let pushed : stack_view c.push.new.self.items ≡ InFields [] name ∷ stack_view xs =
    ap stack_view c.in_ok-push-in-Some.ensures.items ∙ stack_view-push xs (frame.Fields c.new.result name) ∙ ap (λ fs. InFields fs name ∷ stack_view xs) c.new.ensures in
    subst (λ st. LeadsLow AtValue (stack_view xs) (take (n + 1) bytes) AtValue st) (sym pushed) (opened-low bytes n name (stack_view xs) some c.if-bytes-ne123.false low named)
